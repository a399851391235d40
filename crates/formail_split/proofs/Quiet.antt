-- Texts in which no mail begins after the first one.
use Rattle.std.proofs.Common.{◌≡◌, ℕ, suc, ◌-◌, ◌<◌, ◌≤◌, Bool, true, false, ◌==◌, ◌&&◌, nat_eq, List, [], ◌∷◌, ◌++◌, length, take, drop, refl, sym, ◌∙◌, ap, subst, ⊎_elim, arith, codes, length-append, append_assoc, append-nil, if◌then◌else◌}
use Rattle.std.proofs.lemmas.Bool.{cases_Bool, cases_eq, ne_eqb, false≢true}
use Rattle.std.proofs.lemmas.Bool.Decides.{Decides-eqb}
use Rattle.std.proofs.lemmas.Slice.Eq.{starts_is, ends_is}
use Rattle.std.proofs.Math.Seq.{take-length, drop-length}
use Rattle.std.specs.List.{starts_with, ends_with, flat_map}
use Rattle.pm_message.specs.Lines.{onto, lines}
use Rattle.pm_message.specs.Piece.{with_newline, ended}
use Rattle.pm_message.proofs.LineLemmas.{lines-break, lines-on}
use Rattle.formail_edit.proofs.EmptyLines.{Filled}
use Rattle.formail_split.specs.Parts.{is_from_line, comes_from_line, parts_of}
use Rattle.formail_split.proofs.PartLemmas.{one, begins, part_len, NoBreak, from_line-text, part_len-later, first_is}

abbrev pub sign : List ℕ
sign = codes "From "

-- no mail begins after the first byte, where the text begins at a line's beginning or within a line
abbrev pub Quiet : Bool → List ℕ → Type 0
Quiet fresh [] = Unit {0}
Quiet fresh (b ∷ bs) = (fresh ≡ true → begins (b ∷ bs) one ≡ false) × Quiet (b == 10) bs

-- no line begins with `From `
abbrev pub Calm : Bool → List ℕ → Type 0
Calm fresh [] = Unit {0}
Calm fresh (b ∷ bs) = (fresh ≡ true → begins (b ∷ bs) sign ≡ false) × Calm (b == 10) bs

-- each byte is a newline
abbrev pub Newlines : List ℕ → Type 0
Newlines [] = Unit {0}
Newlines (b ∷ bs) = (b ≡ 10) × Newlines bs

-- a text that begins with another one, one byte more of both
start_off : (p b : ℕ) (ps bs : List ℕ) → (p ≡ b → ⊥) → begins (b ∷ bs) (p ∷ ps) ≡ false
start_off p b ps bs ne = rw (ne_eqb p b ne) refl

pub not_begins : (b : ℕ) (bs : List ℕ) → (b ≡ 10 → ⊥) → begins (b ∷ bs) one ≡ false
not_begins b bs ne = start_off 10 b sign bs (λ e. ne (sym e))

pub sign_lacks : NoBreak sign
sign_lacks = ((λ e. cc), ((λ e. cc), ((λ e. cc), ((λ e. cc), ((λ e. cc), tt)))))

-- a text without a place to cut is its first mail
quiet_len : (fresh : Bool) (bs : List ℕ) → Quiet fresh bs → part_len fresh bs ≡ length bs
quiet_len fresh [] q = refl
quiet_len fresh (b ∷ bs) q = part_len-later fresh b bs q.0 ∙ ap suc (quiet_len (b == 10) bs q.1)

pub one_part : (bs : List ℕ) → 0 < length bs → Quiet true bs → parts_of bs ≡ bs ∷ []
one_part bs some q =
    first_is bs (length bs) some (quiet_len true bs q)
    ∙ ap (λ t. t ∷ parts_of (drop (length bs) bs)) (take-length bs)
    ∙ ap (λ t. bs ∷ parts_of t) (drop-length bs)

-- lines none of which begins with `From `
not_from : (bs : List ℕ) → Calm true bs → begins bs sign ≡ false
not_from [] c = refl
not_from (b ∷ bs) c = c.0 refl

no_cut : (b : ℕ) (bs : List ℕ) → Calm (b == 10) bs → begins (b ∷ bs) one ≡ false
no_cut b bs c = ⊎_elim
    (λ e. (let calm : Calm true bs = subst (λ x. Calm (x == 10) bs) e c in subst (λ x. begins (x ∷ bs) one ≡ false) (sym e) (not_from bs calm)))
    (λ ne. not_begins b bs ne)
    (cases_eq b 10)

pub quiet-calm : (old fresh : Bool) (bs : List ℕ) → Calm old bs → Quiet fresh bs
quiet-calm old fresh [] c = tt
quiet-calm old fresh (b ∷ bs) c = ((λ _. no_cut b bs c.1), quiet-calm (b == 10) (b == 10) bs c.1)

-- lines that aren't empty, and after them lines that don't begin so
pub quiet-filled : (fresh : Bool) (front rest : List ℕ) → Filled fresh front → Calm true rest → Quiet fresh (front ++ rest)
quiet-filled fresh [] rest f c = quiet-calm true fresh rest c
quiet-filled fresh (b ∷ front) rest f c = ((λ e. not_begins b (front ++ rest) (f.0 e)), quiet-filled (b == 10) front rest f.1 c)

-- newlines at the end begin no mail
begins_word : (needle bs tail : List ℕ) → NoBreak needle → Newlines tail → begins (bs ++ tail) needle ≡ begins bs needle
begins_word [] bs tail none lines = refl
begins_word (c ∷ needle) [] [] none lines = refl
begins_word (c ∷ needle) [] (t ∷ tail) none lines = start_off c t needle tail (λ e. none.0 (e ∙ lines.0))
begins_word (c ∷ needle) (b ∷ bs) tail none lines = ap (λ t. nat_eq c b && t) (begins_word needle bs tail none.1 lines)

begins_more : (bs tail : List ℕ) → Newlines tail → begins (bs ++ tail) one ≡ begins bs one
begins_more [] [] lines = refl
begins_more [] (t ∷ tail) lines = subst (λ x. begins (x ∷ tail) one ≡ false) (sym lines.0) (begins_word sign [] tail sign_lacks lines.1)
begins_more (b ∷ bs) tail lines = ap (λ t. nat_eq 10 b && t) (begins_word sign bs tail sign_lacks lines)

quiet-newlines : (fresh : Bool) (tail : List ℕ) → Newlines tail → Quiet fresh tail
quiet-newlines fresh [] lines = tt
quiet-newlines fresh (t ∷ tail) lines = ((λ _. begins_more [] (t ∷ tail) lines), quiet-newlines (t == 10) tail lines.1)

pub quiet-tail : (fresh : Bool) (bs tail : List ℕ) → Quiet fresh bs → Newlines tail → Quiet fresh (bs ++ tail)
quiet-tail fresh [] tail q lines = quiet-newlines fresh tail lines
quiet-tail fresh (b ∷ bs) tail q lines = ((λ e. begins_more (b ∷ bs) tail lines ∙ q.0 e), quiet-tail (b == 10) bs tail q.1 lines)

-- a text that is ended has only newlines more, and ends with two
pub record IsEnded (text : List ℕ) : Type 0 where
  pub tail : List ℕ
  pub newlines : Newlines tail
  pub whole : ended text ≡ text ++ tail
  pub before : List ℕ
  pub ends : ended text ≡ before ++ codes "\n\n"

pub record HasNewline (text : List ℕ) : Type 0 where
  pub tail : List ℕ
  pub newlines : Newlines tail
  pub whole : with_newline text ≡ text ++ tail
  pub before : List ℕ
  pub ends : with_newline text ≡ before ++ codes "\n"

pub has_newline : (text : List ℕ) → HasNewline text
has_newline text = ⊎_elim
    (λ h. record {
      tail = [];
      newlines = tt;
      whole = rw h (sym (append-nil text));
      before = take (length text - 1) text;
      ends = rw h ((ends_is Decides-eqb text (codes "\n") (ends_with nat_eq text (codes "\n")) refl).0 h);
    })
    (λ h. record {
      tail = codes "\n";
      newlines = (refl, tt);
      whole = rw h refl;
      before = text;
      ends = rw h refl;
    })
    (cases_Bool (ends_with nat_eq text (codes "\n")))

newlines-append : (a b : List ℕ) → Newlines a → Newlines b → Newlines (a ++ b)
newlines-append [] b first second = second
newlines-append (t ∷ a) b first second = (first.0, newlines-append a b first.1 second)

ended-by : (text closed : List ℕ) → closed ≡ with_newline text → (ends_with nat_eq closed (codes "\n\n") ≡ true → ended text ≡ closed) × (ends_with nat_eq closed (codes "\n\n") ≡ false → ended text ≡ closed ++ codes "\n")
ended-by text closed is = subst (λ c. (ends_with nat_eq c (codes "\n\n") ≡ true → ended text ≡ c) × (ends_with nat_eq c (codes "\n\n") ≡ false → ended text ≡ c ++ codes "\n")) (sym is) ((λ h. choose_true h), (λ h. choose_false h))
  where
    choose_true : ends_with nat_eq (with_newline text) (codes "\n\n") ≡ true → ended text ≡ with_newline text
    choose_true h = ap (λ b. if b then with_newline text else with_newline text ++ codes "\n") h

    choose_false : ends_with nat_eq (with_newline text) (codes "\n\n") ≡ false → ended text ≡ with_newline text ++ codes "\n"
    choose_false h = ap (λ b. if b then with_newline text else with_newline text ++ codes "\n") h

pub is_ended : (text : List ℕ) → IsEnded text
is_ended text =
    let one : HasNewline text = has_newline text in
    let closed : List ℕ = with_newline text in
    ⊎_elim
    (λ h. record {
      tail = one.tail;
      newlines = one.newlines;
      whole = (ended-by text closed refl).0 h ∙ one.whole;
      before = take (length closed - 2) closed;
      ends = (ended-by text closed refl).0 h ∙ (ends_is Decides-eqb closed (codes "\n\n") (ends_with nat_eq closed (codes "\n\n")) refl).0 h;
    })
    (λ h. record {
      tail = one.tail ++ codes "\n";
      newlines = newlines-append one.tail (codes "\n") one.newlines (refl, tt);
      whole = (ended-by text closed refl).1 h ∙ ap (λ t. t ++ codes "\n") one.whole ∙ append_assoc text one.tail (codes "\n");
      before = one.before;
      ends = (ended-by text closed refl).1 h ∙ ap (λ t. t ++ codes "\n") one.ends ∙ append_assoc one.before (codes "\n") (codes "\n");
    })
    (cases_Bool (ends_with nat_eq closed (codes "\n\n")))

-- lines with this before each that begins with `From `
abbrev pub shield : List ℕ → List ℕ → List ℕ
shield prefix line = if is_from_line line then prefix ++ line else line

abbrev pub shielded : List ℕ → List (List ℕ) → List ℕ
shielded prefix ls = flat_map (shield prefix) ls

-- the same but for the first line
abbrev rest_of : List ℕ → List (List ℕ) → List ℕ
rest_of prefix [] = []
rest_of prefix (l ∷ ls) = l ++ shielded prefix ls

rest_of-onto : (prefix : List ℕ) (b : ℕ) (ls : List (List ℕ)) → rest_of prefix (onto b ls) ≡ b ∷ rest_of prefix ls
rest_of-onto prefix b [] = refl
rest_of-onto prefix b (l ∷ ls) = refl

rest_of-begins : (prefix needle bs : List ℕ) → NoBreak needle → begins (rest_of prefix (lines bs)) needle ≡ begins bs needle
rest_of-begins prefix [] bs none = refl
rest_of-begins prefix (c ∷ needle) [] none = refl
rest_of-begins prefix (c ∷ needle) (b ∷ bs) none = ⊎_elim
    (λ e. ap (λ ls. begins (rest_of prefix ls) (c ∷ needle)) (lines-break b bs e)
    ∙ start_off c b needle (shielded prefix (lines bs)) (λ s. none.0 (s ∙ e)) ∙ sym (start_off c b needle bs (λ s. none.0 (s ∙ e))))
    (λ ne. ap (λ t. begins t (c ∷ needle)) (ap (rest_of prefix) (lines-on b bs ne) ∙ rest_of-onto prefix b (lines bs))
    ∙ ap (λ t. nat_eq c b && t) (rest_of-begins prefix needle bs none.1))
    (cases_eq b 10)

by_test : (prefix line rest : List ℕ) (from : Bool) → (if from then prefix ++ line else line) ++ rest ≡ (if from then prefix else []) ++ (line ++ rest)
by_test prefix line rest true = append_assoc prefix line rest
by_test prefix line rest false = refl

shielded_first : (prefix : List ℕ) (ls : List (List ℕ)) → shielded prefix ls ≡ (if comes_from_line ls then prefix else []) ++ rest_of prefix ls
shielded_first prefix [] = refl
shielded_first prefix (l ∷ ls) = by_test prefix l (shielded prefix ls) (is_from_line l)

shielded_text : (prefix bs : List ℕ) → shielded prefix (lines bs) ≡ (if begins bs sign then prefix else []) ++ rest_of prefix (lines bs)
shielded_text prefix bs =
    shielded_first prefix (lines bs) ∙ ap (λ b. (if b then prefix else []) ++ rest_of prefix (lines bs)) (from_line-text bs)

fresh_calm : (bs : List ℕ) → begins bs sign ≡ false → Calm false bs → Calm true bs
fresh_calm [] other c = tt
fresh_calm (b ∷ bs) other c = ((λ _. other), c.1)

calm-more : (prefix bs : List ℕ) → NoBreak prefix → Calm false bs → Calm false (prefix ++ bs)
calm-more [] bs none c = c
calm-more (q ∷ prefix) bs none c =
    ((λ t. absurd (false≢true t)), subst (λ x. Calm x (prefix ++ bs)) (sym (ne_eqb q 10 none.0)) (calm-more prefix bs none.1 c))

pub begins_long : (needle bs rest : List ℕ) → length needle ≤ length bs → begins (bs ++ rest) needle ≡ begins bs needle
begins_long [] bs rest long = refl
begins_long (c ∷ needle) [] rest long = absurd (omega (arith, long))
begins_long (c ∷ needle) (b ∷ bs) rest long = ap (λ t. nat_eq c b && t) (begins_long needle bs rest (omega (arith, long)))

-- a prefix that keeps a line from beginning with `From `: it has no newline, and with `From ` after it doesn't begin so
pub record Shields (prefix : List ℕ) : Type 0 where
  pub lacks : NoBreak prefix
  pub keeps : begins (prefix ++ sign) sign ≡ false

shielded_begins : (prefix bs : List ℕ) → Shields prefix → begins bs sign ≡ true → begins (prefix ++ bs) sign ≡ false
shielded_begins prefix bs shields from =
    let is = (starts_is Decides-eqb bs sign (starts_with nat_eq bs sign) refl).0 from in
    ap (λ t. begins (prefix ++ t) sign) is ∙ ap (λ t. begins t sign) (sym (append_assoc prefix sign (drop 5 bs)))
    ∙ begins_long sign (prefix ++ sign) (drop 5 bs) (omega (arith, length-append prefix sign)) ∙ shields.keeps

calm-first : (prefix bs rest : List ℕ) → Shields prefix → rest ≡ rest_of prefix (lines bs) → Calm false rest → (from : Bool) → begins bs sign ≡ from → Calm true ((if from then prefix else []) ++ rest)
calm-first prefix bs rest shields is calm true from =
    let starts : begins rest sign ≡ true = ap (λ t. begins t sign) is ∙ rest_of-begins prefix sign bs sign_lacks ∙ from in
    fresh_calm (prefix ++ rest) (shielded_begins prefix rest shields starts) (calm-more prefix rest shields.lacks calm)
calm-first prefix bs rest shields is calm false from =
    let starts : begins rest sign ≡ false = ap (λ t. begins t sign) is ∙ rest_of-begins prefix sign bs sign_lacks ∙ from in
    fresh_calm rest starts calm

break : (prefix : List ℕ) (ls : List (List ℕ)) → Calm true (shielded prefix ls) → Calm true (shielded prefix ((10 ∷ []) ∷ ls)) × Calm false (rest_of prefix ((10 ∷ []) ∷ ls))
break prefix ls calm = (((λ _. refl), calm), ((λ t. absurd (false≢true t)), calm))

-- so none of the lines begins with `From `
calm-both : (prefix : List ℕ) → Shields prefix → (bs : List ℕ) → Calm true (shielded prefix (lines bs)) × Calm false (rest_of prefix (lines bs))
calm-both prefix shields [] = (tt, tt)
calm-both prefix shields (b ∷ bs) = ⊎_elim
    (λ e. (let later = calm-both prefix shields bs in
    subst (λ (x : ℕ). Calm true (shielded prefix (lines (x ∷ bs))) × Calm false (rest_of prefix (lines (x ∷ bs)))) (sym e) (break prefix (lines bs) later.0)))
    (λ ne. (let later = calm-both prefix shields bs in
    let rest = rest_of prefix (lines (b ∷ bs)) in
    let is : rest ≡ b ∷ rest_of prefix (lines bs) = ap (rest_of prefix) (lines-on b bs ne) ∙ rest_of-onto prefix b (lines bs) in
    let calm : Calm false rest = subst (Calm false) (sym is) ((λ t. absurd (false≢true t)), subst (λ x. Calm x (rest_of prefix (lines bs))) (sym (ne_eqb b 10 ne)) later.1) in
    (subst (Calm true) (sym (shielded_text prefix (b ∷ bs))) (calm-first prefix (b ∷ bs) rest shields refl calm (begins (b ∷ bs) sign) refl), calm)))
    (cases_eq b 10)

pub calm-shielded : (prefix bs : List ℕ) → Shields prefix → Calm true (shielded prefix (lines bs))
calm-shielded prefix bs shields = (calm-both prefix shields bs).0
