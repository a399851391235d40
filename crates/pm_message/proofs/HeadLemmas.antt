-- Where the first empty line ends.
use Rattle.std.proofs.Common.{nat_eq, add-zero, add-one, ◌≡◌, ℕ, zero, suc, ◌+◌, ◌<◌, Bool, true, false, cond, ◌==◌, List, [], ◌∷◌, length, get_or, take, drop, refl, sym, ◌∙◌, ap, subst, ⊎_elim, arith, codes}
use Rattle.std.proofs.lemmas.Bool.{cases_eq, ne_eqb, false≢true}
use Rattle.std.specs.List.{concat, starts_with}
use Rattle.std.specs.Prelude.{bytes_eq, slice_index}
use Rattle.memchr.specs.Find.{OccursAt, NoneBefore, Nowhere}
use Rattle.pm_message.specs.Lines.{onto, lines}
use Rattle.pm_message.specs.Split.{head_lines, body_lines, head_of, body_of}
use Rattle.pm_message.proofs.LineLemmas.{lines-break, lines-on, concat-lines}

-- the two newlines that end a head
abbrev pub two : List ℕ
two = codes "\n\n"

-- how many bytes there are up to the first empty line, with it, where the text begins at a line's beginning or within a line
abbrev pub head_len : Bool → List ℕ → ℕ
head_len fresh [] = 0
head_len true (b ∷ bs) = cond (b == 10) 1 (suc (head_len false bs))
head_len false (b ∷ bs) = cond (b == 10) (suc (head_len true bs)) (suc (head_len false bs))

pub head_len-first : (b : ℕ) (bs : List ℕ) → b ≡ 10 → head_len true (b ∷ bs) ≡ 1
head_len-first b bs e = subst (λ x. head_len true (x ∷ bs) ≡ 1) (sym e) refl

pub head_len-break : (b : ℕ) (bs : List ℕ) → b ≡ 10 → head_len false (b ∷ bs) ≡ suc (head_len true bs)
head_len-break b bs e = subst (λ x. head_len false (x ∷ bs) ≡ suc (head_len true bs)) (sym e) refl

pub head_len-on : (fresh : Bool) (b : ℕ) (bs : List ℕ) → (b ≡ 10 → ⊥) → head_len fresh (b ∷ bs) ≡ suc (head_len false bs)
head_len-on true b bs ne = rw (ne_eqb b 10 ne) refl
head_len-on false b bs ne = rw (ne_eqb b 10 ne) refl

-- the head's lines and the body's, where the first line may be the rest of a line
abbrev head_rest : Bool → List (List ℕ) → List (List ℕ)
head_rest true ls = head_lines ls
head_rest false [] = []
head_rest false (l ∷ ls) = l ∷ head_lines ls

abbrev body_rest : Bool → List (List ℕ) → List (List ℕ)
body_rest true ls = body_lines ls
body_rest false [] = []
body_rest false (l ∷ ls) = body_lines ls

long_line : (b : ℕ) (l : List ℕ) → (b ≡ 10 → ⊥) → bytes_eq (b ∷ l) (codes "\n") ≡ false
long_line b l ne = rw (ne_eqb b 10 ne) refl

head_rest-on : (fresh : Bool) (b : ℕ) (ls : List (List ℕ)) → (b ≡ 10 → ⊥) → concat (head_rest fresh (onto b ls)) ≡ b ∷ concat (head_rest false ls)
head_rest-on true b [] ne = rw (long_line b [] ne) refl
head_rest-on true b (l ∷ ls) ne = rw (long_line b l ne) refl
head_rest-on false b [] ne = refl
head_rest-on false b (l ∷ ls) ne = refl

body_rest-on : (fresh : Bool) (b : ℕ) (ls : List (List ℕ)) → (b ≡ 10 → ⊥) → body_rest fresh (onto b ls) ≡ body_rest false ls
body_rest-on true b [] ne = rw (long_line b [] ne) refl
body_rest-on true b (l ∷ ls) ne = rw (long_line b l ne) refl
body_rest-on false b [] ne = refl
body_rest-on false b (l ∷ ls) ne = refl

pub head_rest-take : (fresh : Bool) (bs : List ℕ) → concat (head_rest fresh (lines bs)) ≡ take (head_len fresh bs) bs
head_rest-take true [] = refl
head_rest-take false [] = refl
head_rest-take true (b ∷ bs) = ⊎_elim
    (λ e. rw (lines-break b bs e, head_len-first b bs e, e) refl)
    (λ ne. rw (lines-on b bs ne, head_len-on true b bs ne) (head_rest-on true b (lines bs) ne ∙ ap (λ t. b ∷ t) (head_rest-take false bs)))
    (cases_eq b 10)
head_rest-take false (b ∷ bs) = ⊎_elim
    (λ e. rw (lines-break b bs e, head_len-break b bs e) (ap (λ t. b ∷ t) (head_rest-take true bs)))
    (λ ne. rw (lines-on b bs ne, head_len-on false b bs ne) (head_rest-on false b (lines bs) ne ∙ ap (λ t. b ∷ t) (head_rest-take false bs)))
    (cases_eq b 10)

pub body_rest-drop : (fresh : Bool) (bs : List ℕ) → concat (body_rest fresh (lines bs)) ≡ drop (head_len fresh bs) bs
body_rest-drop true [] = refl
body_rest-drop false [] = refl
body_rest-drop true (b ∷ bs) = ⊎_elim
    (λ e. rw (lines-break b bs e, head_len-first b bs e, e) (concat-lines bs))
    (λ ne. rw (lines-on b bs ne, head_len-on true b bs ne) (ap concat (body_rest-on true b (lines bs) ne) ∙ body_rest-drop false bs))
    (cases_eq b 10)
body_rest-drop false (b ∷ bs) = ⊎_elim
    (λ e. rw (lines-break b bs e, head_len-break b bs e) (body_rest-drop true bs))
    (λ ne. rw (lines-on b bs ne, head_len-on false b bs ne) (ap concat (body_rest-on false b (lines bs) ne) ∙ body_rest-drop false bs))
    (cases_eq b 10)

-- a text that begins with a newline
pub newline_first : (bs : List ℕ) → starts_with nat_eq bs (codes "\n") ≡ true → head_len true bs ≡ 1
newline_first [] e = absurd (false≢true e)
newline_first (b ∷ bs) e = ⊎_elim
    (λ is. head_len-first b bs is)
    (λ ne. absurd (false≢true (sym (rw (ne_eqb 10 b (λ t. ne (sym t))) refl) ∙ e)))
    (cases_eq b 10)

begins : (bs : List ℕ) → get_or bs 0 0 ≡ 10 → starts_with nat_eq bs (codes "\n") ≡ true
begins [] e = absurd (omega (arith, e))
begins (b ∷ bs) e = rw e refl

pub not_first : (bs : List ℕ) → starts_with nat_eq bs (codes "\n") ≡ false → get_or bs 0 0 ≡ 10 → ⊥
not_first bs other is = false≢true (sym other ∙ begins bs is)

in_text : (bs : List ℕ) (i : ℕ) → get_or bs i 0 ≡ 10 → i < length bs
in_text [] i e = absurd (omega (arith, e))
in_text (b ∷ bs) zero e = omega arith
in_text (b ∷ bs) (suc i) e = omega (arith, in_text bs i e)

occurs : (bs : List ℕ) (k : ℕ) → get_or bs k 0 ≡ 10 → get_or bs (suc k) 0 ≡ 10 → OccursAt bs two k
occurs bs k a b = record { fits = (let h = in_text bs (suc k) b in omega (arith, h)); reads = reads }
  where
    reads : (j : ℕ) → j < 2 → slice_index bs (k + j) ≡ slice_index two j
    reads zero h = ap (λ i. slice_index bs i) (add-zero k) ∙ a
    reads (suc zero) h = ap (λ i. slice_index bs i) (add-one k) ∙ b
    reads (suc (suc j)) h = absurd (omega (arith, h))

occurring : (bs : List ℕ) (k : ℕ) → OccursAt bs two k → (get_or bs k 0 ≡ 10) × (get_or bs (suc k) 0 ≡ 10)
occurring bs k o = (
  sym (ap (λ i. slice_index bs i) (add-zero k)) ∙ o.reads 0 (omega arith),
  sym (ap (λ i. slice_index bs i) (add-one k)) ∙ o.reads 1 (omega arith),
)

head_len-newline : (bs : List ℕ) → get_or bs 0 0 ≡ 10 → head_len true bs ≡ 1
head_len-newline [] e = absurd (omega (arith, e))
head_len-newline (b ∷ bs) e = head_len-first b bs e

-- the first two newlines in a row end the head
found : (fresh : Bool) (bs : List ℕ) (k : ℕ) → (fresh ≡ true → get_or bs 0 0 ≡ 10 → ⊥) → get_or bs k 0 ≡ 10 → get_or bs (suc k) 0 ≡ 10 → ((j : ℕ) → j < k → get_or bs j 0 ≡ 10 → get_or bs (suc j) 0 ≡ 10 → ⊥) → head_len fresh bs ≡ suc (suc k)
found fresh [] k start a e none = absurd (omega (arith, a))
found true (b ∷ bs) zero start a e none = absurd (start refl a)
found false (b ∷ bs) zero start a e none = head_len-break b bs a ∙ ap suc (head_len-newline bs e)
found true (b ∷ bs) (suc k) start a e none = ⊎_elim
    (λ is. absurd (start refl is))
    (λ ne. head_len-on true b bs ne ∙ ap suc (found false bs k (λ t _. false≢true t) a e (λ j lt. none (suc j) (omega (arith, lt)))))
    (cases_eq b 10)
found false (b ∷ bs) (suc k) start a e none = ⊎_elim
    (λ is. head_len-break b bs is ∙ ap suc (found true bs k (λ _ next. none 0 (omega arith) is next) a e (λ j lt. none (suc j) (omega (arith, lt)))))
    (λ ne. head_len-on false b bs ne ∙ ap suc (found false bs k (λ t _. false≢true t) a e (λ j lt. none (suc j) (omega (arith, lt)))))
    (cases_eq b 10)

-- and without them all is head
nowhere : (fresh : Bool) (bs : List ℕ) → (fresh ≡ true → get_or bs 0 0 ≡ 10 → ⊥) → ((j : ℕ) → get_or bs j 0 ≡ 10 → get_or bs (suc j) 0 ≡ 10 → ⊥) → head_len fresh bs ≡ length bs
nowhere true [] start none = refl
nowhere false [] start none = refl
nowhere true (b ∷ bs) start none = ⊎_elim
    (λ is. absurd (start refl is))
    (λ ne. head_len-on true b bs ne ∙ ap suc (nowhere false bs (λ t _. false≢true t) (λ j. none (suc j))))
    (cases_eq b 10)
nowhere false (b ∷ bs) start none = ⊎_elim
    (λ is. head_len-break b bs is ∙ ap suc (nowhere true bs (λ _ next. none 0 is next) (λ j. none (suc j))))
    (λ ne. head_len-on false b bs ne ∙ ap suc (nowhere false bs (λ t _. false≢true t) (λ j. none (suc j))))
    (cases_eq b 10)

pub head_len-some : (bs : List ℕ) (k : ℕ) → (get_or bs 0 0 ≡ 10 → ⊥) → NoneBefore (OccursAt bs two) 0 (length bs + 1) k × OccursAt bs two k → head_len true bs ≡ k + 2
head_len-some bs k start h =
    let at = occurring bs k h.1 in
    let e : head_len true bs ≡ suc (suc k) = found true bs k (λ _. start) at.0 at.1 (λ j lt a b. (h.0).before j (omega arith) lt (occurs bs j a b)) in
    omega (arith, e)

pub head_len-none : (bs : List ℕ) → (get_or bs 0 0 ≡ 10 → ⊥) → Nowhere (OccursAt bs two) 0 (length bs + 1) → head_len true bs ≡ length bs
head_len-none bs start h =
    nowhere true bs (λ _. start) (λ j a e. (let lt = in_text bs j a in h j (omega arith) (omega (arith, lt)) (occurs bs j a e)))

-- the text is cut where the head ends
pub head_at : (bs : List ℕ) (n : ℕ) → head_len true bs ≡ n → take n bs ≡ head_of bs
head_at bs n e = ap (λ m. take m bs) (sym e) ∙ sym (head_rest-take true bs)

pub body_at : (bs : List ℕ) (n : ℕ) → head_len true bs ≡ n → drop n bs ≡ body_of bs
body_at bs n e = ap (λ m. drop m bs) (sym e) ∙ sym (body_rest-drop true bs)
