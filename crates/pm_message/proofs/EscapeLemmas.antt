-- Where lines are escaped.
use Rattle.std.proofs.Common.{◌≡◌, ℕ, zero, suc, ◌+◌, ◌<◌, ◌≤◌, true, false, List, [], ◌∷◌, ◌++◌, length, take, drop, refl, sym, ◌∙◌, ap, subst, ⊎_elim, arith, codes, nat_eq, append_assoc, if◌then◌else◌}
use Rattle.std.proofs.lemmas.Bool.{cases_eq, ne_eqb, false≢true, cases_Bool}
use Rattle.std.specs.List.{flat_map, starts_with}
use Rattle.std.specs.Prelude.{slice_index}
use Rattle.memchr.specs.Find.{OccursAt, NoneBefore, Nowhere}
use Rattle.pm_message.specs.Lines.{onto, lines}
use Rattle.pm_message.specs.Piece.{escaped_line, escaped}
use Rattle.pm_message.proofs.LineLemmas.{lines-break, lines-on}

-- what begins a line that is escaped, alone and with the newline before it
abbrev pub sign : List ℕ
sign = codes "From "

abbrev pub needle : List ℕ
needle = codes "\nFrom "

-- the lines escaped but for the first
abbrev pub behind_first : List (List ℕ) → List ℕ
behind_first [] = []
behind_first (line ∷ rest) = line ++ flat_map escaped_line rest

abbrev pub rest_escaped : List ℕ → List ℕ
rest_escaped text = behind_first (lines text)

-- what comes before a text that begins a line
abbrev pub mark : List ℕ → List ℕ
mark text = if starts_with nat_eq text sign then codes ">" else []

abbrev first_of : List (List ℕ) → List ℕ
first_of [] = []
first_of (line ∷ rest) = line

-- one byte more of a text and of what it is to begin with
start_on : (p b : ℕ) (ps bs : List ℕ) → p ≡ b → starts_with nat_eq (b ∷ bs) (p ∷ ps) ≡ starts_with nat_eq bs ps
start_on p b ps bs is = grind (arith, is)

start_off : (p b : ℕ) (ps bs : List ℕ) → (p ≡ b → ⊥) → starts_with nat_eq (b ∷ bs) (p ∷ ps) ≡ false
start_off p b ps bs ne = rw (ne_eqb p b ne) refl

one_on : (p b : ℕ) (bs ps : List ℕ) → p ≡ b → ((j : ℕ) → j < length ps → slice_index bs j ≡ slice_index ps j) → (j : ℕ) → j < suc (length ps) → slice_index (b ∷ bs) j ≡ slice_index (p ∷ ps) j
one_on p b bs ps is reads zero less = sym is
one_on p b bs ps is reads (suc j) less = reads j (omega (arith, less))

-- a text that begins with another one has its bytes
pub reads_start : (bs ps : List ℕ) → starts_with nat_eq bs ps ≡ true → (length ps ≤ length bs) × ((j : ℕ) → j < length ps → slice_index bs j ≡ slice_index ps j)
reads_start bs [] e = (omega arith, λ j less. absurd (omega (arith, less)))
reads_start [] (p ∷ ps) e = absurd (false≢true e)
reads_start (b ∷ bs) (p ∷ ps) e = ⊎_elim
    (λ is. (let rest = reads_start bs ps (sym (start_on p b ps bs is) ∙ e) in let long = rest.0 in (omega (arith, long), one_on p b bs ps is rest.1)))
    (λ ne. absurd (false≢true (sym (start_off p b ps bs ne) ∙ e)))
    (cases_eq p b)

pub start_read : (bs ps : List ℕ) → length ps ≤ length bs → ((j : ℕ) → j < length ps → slice_index bs j ≡ slice_index ps j) → starts_with nat_eq bs ps ≡ true
start_read bs [] fits reads = refl
start_read [] (p ∷ ps) fits reads = absurd (omega (arith, fits))
start_read (b ∷ bs) (p ∷ ps) fits reads =
    start_on p b ps bs (sym (reads 0 (omega arith))) ∙ start_read bs ps (omega (arith, fits)) (λ j less. reads (suc j) (omega (arith, less)))

-- the needle after one byte more
occurs_on : (b : ℕ) (bs : List ℕ) (k : ℕ) → OccursAt bs needle k → OccursAt (b ∷ bs) needle (suc k)
occurs_on b bs k o = record {
  fits = (let h = o.fits in omega (arith, h));
  reads = λ j less. (let e : suc k + j ≡ suc (k + j) = omega arith in ap (λ i. slice_index (b ∷ bs) i) e ∙ o.reads j less);
}

occurs_off : (b : ℕ) (bs : List ℕ) (k : ℕ) → OccursAt (b ∷ bs) needle (suc k) → OccursAt bs needle k
occurs_off b bs k o = record {
  fits = (let h = o.fits in omega (arith, h));
  reads = λ j less. (let e : suc k + j ≡ suc (k + j) = omega arith in sym (ap (λ i. slice_index (b ∷ bs) i) e) ∙ o.reads j less);
}

-- the needle is a newline with the sign after it
occurs_first : (bs : List ℕ) → starts_with nat_eq bs sign ≡ true → OccursAt (10 ∷ bs) needle 0
occurs_first bs e =
    let rest = reads_start bs sign e in
    record {
      fits = (let h = rest.0 in omega (arith, h));
      reads = λ j less. (let z : 0 + j ≡ j = omega arith in ap (λ i. slice_index (10 ∷ bs) i) z ∙ one_on 10 10 bs sign refl rest.1 j less);
    }

first_reads : (b : ℕ) (bs : List ℕ) → OccursAt (b ∷ bs) needle 0 → (b ≡ 10) × (starts_with nat_eq bs sign ≡ true)
first_reads b bs o = (
  (let z : 0 + 0 ≡ 0 = omega arith in sym (ap (λ i. slice_index (b ∷ bs) i) z) ∙ o.reads 0 (omega arith)),
  start_read bs sign (let h = o.fits in omega (arith, h)) (λ j less. (let z : 0 + suc j ≡ suc j = omega arith in sym (ap (λ i. slice_index (b ∷ bs) i) z) ∙ o.reads (suc j) (omega (arith, less)))),
)

-- the first line begins as the text does
first_on : (b : ℕ) (ls : List (List ℕ)) → first_of (onto b ls) ≡ b ∷ first_of ls
first_on b [] = refl
first_on b (l ∷ ls) = refl

abbrev no_newline : List ℕ → Type 0
no_newline [] = Unit {0}
no_newline (p ∷ ps) = (p ≡ 10 → ⊥) × no_newline ps

line_starts : (bs ps : List ℕ) → no_newline ps → starts_with nat_eq (first_of (lines bs)) ps ≡ starts_with nat_eq bs ps
line_starts bs [] none = refl
line_starts [] (p ∷ ps) none = refl
line_starts (b ∷ bs) (p ∷ ps) none = ⊎_elim
    (λ is. rw (lines-break b bs is) (start_off p b ps [] (λ same. none.0 (same ∙ is)) ∙ sym (start_off p b ps bs (λ same. none.0 (same ∙ is)))))
    (λ ne. rw (lines-on b bs ne, first_on b (lines bs)) (⊎_elim
    (λ same. start_on p b ps (first_of (lines bs)) same ∙ line_starts bs ps none.1 ∙ sym (start_on p b ps bs same))
    (λ other. start_off p b ps (first_of (lines bs)) other ∙ sym (start_off p b ps bs other))
    (cases_eq p b)))
    (cases_eq b 10)

sign_lacks_newline : no_newline sign
sign_lacks_newline = ((λ e. cc), ((λ e. cc), ((λ e. cc), ((λ e. cc), ((λ e. cc), tt)))))

mark_first : (ls : List (List ℕ)) → flat_map escaped_line ls ≡ mark (first_of ls) ++ behind_first ls
mark_first [] = refl
mark_first (l ∷ ls) = ⊎_elim
    (λ h. rw h refl)
    (λ h. rw h refl)
    (cases_Bool (starts_with nat_eq l sign))

-- the escaped text is its mark and the rest
pub escaped_marked : (bs : List ℕ) → escaped bs ≡ mark bs ++ rest_escaped bs
escaped_marked bs =
    mark_first (lines bs) ∙ ap (λ b. (if b then codes ">" else []) ++ rest_escaped bs) (line_starts bs sign sign_lacks_newline)

rest_break : (b : ℕ) (bs : List ℕ) → b ≡ 10 → rest_escaped (b ∷ bs) ≡ b ∷ escaped bs
rest_break b bs is = ap behind_first (lines-break b bs is)

onto_rest : (b : ℕ) (ls : List (List ℕ)) → behind_first (onto b ls) ≡ b ∷ behind_first ls
onto_rest b [] = refl
onto_rest b (l ∷ ls) = refl

rest_on : (b : ℕ) (bs : List ℕ) → (b ≡ 10 → ⊥) → rest_escaped (b ∷ bs) ≡ b ∷ rest_escaped bs
rest_on b bs ne = ap behind_first (lines-on b bs ne) ∙ onto_rest b (lines bs)

marked : (bs : List ℕ) → starts_with nat_eq bs sign ≡ true → mark bs ≡ codes ">"
marked bs starts = rw starts refl

unmarked : (bs : List ℕ) → (starts_with nat_eq bs sign ≡ true → ⊥) → mark bs ≡ []
unmarked bs never = ⊎_elim (λ h. absurd (never h)) (λ e. rw e refl) (cases_Bool (starts_with nat_eq bs sign))

-- without the needle nothing is escaped after the first line
rest_plain : (bs : List ℕ) → ((k : ℕ) → OccursAt bs needle k → ⊥) → rest_escaped bs ≡ bs
rest_plain [] none = refl
rest_plain (b ∷ bs) none =
    let later : rest_escaped bs ≡ bs = rest_plain bs (λ k o. none (suc k) (occurs_on b bs k o)) in
    ⊎_elim
    (λ is. rest_break b bs is ∙ ap (λ t. b ∷ t) (escaped_marked bs
    ∙ ap (λ m. m ++ rest_escaped bs) (unmarked bs (λ h. none 0 (subst (λ x. OccursAt (x ∷ bs) needle 0) (sym is) (occurs_first bs h))))
    ∙ later))
    (λ ne. rest_on b bs ne ∙ ap (λ t. b ∷ t) later)
    (cases_eq b 10)

-- at the first needle the line after it is escaped
rest_found : (bs : List ℕ) (k : ℕ) → OccursAt bs needle k → ((j : ℕ) → j < k → OccursAt bs needle j → ⊥) →
    rest_escaped bs ≡ take (suc k) bs ++ (codes ">" ++ rest_escaped (drop (suc k) bs))
rest_found [] k o none = absurd (let h = o.fits in omega (arith, h))
rest_found (b ∷ bs) zero o none =
    let first = first_reads b bs o in
    rest_break b bs first.0 ∙ ap (λ t. b ∷ t) (escaped_marked bs ∙ ap (λ m. m ++ rest_escaped bs) (marked bs first.1))
rest_found (b ∷ bs) (suc k) o none =
    let later = rest_found bs k (occurs_off b bs k o) (λ j less at. none (suc j) (omega (arith, less)) (occurs_on b bs j at)) in
    ⊎_elim
    (λ is. rest_break b bs is ∙ ap (λ t. b ∷ t) (escaped_marked bs
    ∙ ap (λ m. m ++ rest_escaped bs) (unmarked bs (λ h. none 0 (omega arith) (subst (λ x. OccursAt (x ∷ bs) needle 0) (sym is) (occurs_first bs h))))
    ∙ later))
    (λ ne. rest_on b bs ne ∙ ap (λ t. b ∷ t) later)
    (cases_eq b 10)

-- a part of a text and the mark after it come after what there is
pub escaped_on : (whole text rest : List ℕ) (place : ℕ) → text ++ rest_escaped rest ≡ whole →
    NoneBefore (OccursAt rest needle) 0 (length rest + 1) place × OccursAt rest needle place →
    ((text ++ take (place + 1) rest) ++ codes ">") ++ rest_escaped (drop (place + 1) rest) ≡ whole
escaped_on whole text rest place so_far at =
    let next : place + 1 ≡ suc place = omega arith in
    let found = rest_found rest place at.1 (λ j less o. (at.0).before j (omega arith) less o) in
    append_assoc (text ++ take (place + 1) rest) (codes ">") _ ∙ append_assoc text (take (place + 1) rest) _
    ∙ ap (λ n. text ++ (take n rest ++ (codes ">" ++ rest_escaped (drop n rest)))) next
    ∙ ap (λ t. text ++ t) (sym found) ∙ so_far

pub escaped_end : (whole text rest : List ℕ) → text ++ rest_escaped rest ≡ whole → Nowhere (OccursAt rest needle) 0 (length rest + 1) → text ++ rest ≡ whole
escaped_end whole text rest so_far none =
    ap (λ t. text ++ t) (sym (rest_plain rest (λ k o. none k (omega arith) (let h = o.fits in omega (arith, h)) o))) ∙ so_far

pub escaped_begun_plain : (text bs : List ℕ) → starts_with nat_eq bs sign ≡ false → text ++ rest_escaped bs ≡ text ++ escaped bs
escaped_begun_plain text bs other =
    ap (λ t. text ++ t) (sym (escaped_marked bs ∙ ap (λ m. m ++ rest_escaped bs) (unmarked bs (λ h. false≢true (sym other ∙ h)))))

-- a text in which no line begins with the sign
pub none_escaped : (bs : List ℕ) → starts_with nat_eq bs sign ≡ false → Nowhere (OccursAt bs needle) 0 (length bs + 1) → escaped bs ≡ bs
none_escaped bs other none = sym (escaped_end (escaped bs) [] bs (escaped_begun_plain [] bs other) none)
