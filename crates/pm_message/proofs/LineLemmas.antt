-- The lines of a text, and the same lines as bstr cuts them.
use Rattle.std.proofs.Common.{◌≡◌, ℕ, zero, suc, ◌≤◌, List, [], ◌∷◌, length, take, drop, refl, sym, ◌∙◌, ap, subst, ⊎_elim, arith, length-drop}
use Rattle.std.proofs.lemmas.Bool.{cases_eq, ne_eqb}
use Rattle.std.specs.List.{concat}
use Rattle.bstr.proofs.lemmas.LineLemmas.{line_len-bounds}
use Rattle.bstr.specs.Text.{line_len, lines_from, lines_of}
use Rattle.pm_message.specs.Lines.{onto, lines}

pub lines-break : (b : ℕ) (bs : List ℕ) → b ≡ 10 → lines (b ∷ bs) ≡ (b ∷ []) ∷ lines bs
lines-break b bs e = subst (λ x. lines (x ∷ bs) ≡ (x ∷ []) ∷ lines bs) (sym e) refl

pub lines-on : (b : ℕ) (bs : List ℕ) → (b ≡ 10 → ⊥) → lines (b ∷ bs) ≡ onto b (lines bs)
lines-on b bs ne = rw (ne_eqb b 10 ne) refl

concat-onto : (b : ℕ) (ls : List (List ℕ)) → concat (onto b ls) ≡ b ∷ concat ls
concat-onto b [] = refl
concat-onto b (l ∷ ls) = refl

-- the lines make up the text
pub concat-lines : (bs : List ℕ) → concat (lines bs) ≡ bs
concat-lines [] = refl
concat-lines (b ∷ bs) = ⊎_elim
    (λ e. ap concat (lines-break b bs e) ∙ ap (λ t. b ∷ t) (concat-lines bs))
    (λ ne. ap concat (lines-on b bs ne) ∙ concat-onto b (lines bs) ∙ ap (λ t. b ∷ t) (concat-lines bs))
    (cases_eq b 10)

line_len-break : (b : ℕ) (bs : List ℕ) → b ≡ 10 → line_len (b ∷ bs) ≡ 1
unfolding line_len
line_len-break b bs e = subst (λ x. line_len (x ∷ bs) ≡ 1) (sym e) refl

line_len-on : (b : ℕ) (bs : List ℕ) → (b ≡ 10 → ⊥) → line_len (b ∷ bs) ≡ suc (line_len bs)
unfolding line_len
line_len-on b bs ne = rw (ne_eqb b 10 ne) refl

-- the first line is as long as bstr says
pub first_line : (b : ℕ) (bs : List ℕ) → lines (b ∷ bs) ≡ take (line_len (b ∷ bs)) (b ∷ bs) ∷ lines (drop (line_len (b ∷ bs)) (b ∷ bs))
unfolding line_len
first_line b [] = ⊎_elim
    (λ e. rw (line_len-break b [] e) (lines-break b [] e))
    (λ ne. rw (line_len-on b [] ne) (lines-on b [] ne))
    (cases_eq b 10)
first_line b (d ∷ bs) = ⊎_elim
    (λ e. rw (line_len-break b (d ∷ bs) e) (lines-break b (d ∷ bs) e))
    (λ ne. rw (line_len-on b (d ∷ bs) ne) (lines-on b (d ∷ bs) ne ∙ ap (onto b) (first_line d bs)))
    (cases_eq b 10)

lines_from-lines : (n : ℕ) (bs : List ℕ) → length bs ≤ n → lines_from n bs ≡ lines bs
unfolding lines_from
lines_from-lines zero [] fits = refl
lines_from-lines zero (b ∷ bs) fits = absurd (omega (arith, fits))
lines_from-lines (suc n) [] fits = refl
lines_from-lines (suc n) (b ∷ bs) fits =
    let some = (line_len-bounds (b ∷ bs) (omega arith)).0 in
    let shorter : length (drop (line_len (b ∷ bs)) (b ∷ bs)) ≤ n = omega (arith, length-drop (line_len (b ∷ bs)) (b ∷ bs), some, fits) in
    ap (λ ls. take (line_len (b ∷ bs)) (b ∷ bs) ∷ ls) (lines_from-lines n (drop (line_len (b ∷ bs)) (b ∷ bs)) shorter)
    ∙ sym (first_line b bs)

pub lines_of-lines : (bs : List ℕ) → lines_of bs ≡ lines bs
lines_of-lines bs = lines_from-lines (length bs) bs (omega arith)
