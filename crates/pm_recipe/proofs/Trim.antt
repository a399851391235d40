-- One more byte of a text, a blank or not.
use Rattle.std.proofs.Common.{◌≡◌, ◌<◌, ◌+◌, ◌&&◌, cond, ℕ, Bool, true, false, List, [], ◌∷◌, ◌++◌, refl, ap, sym, ◌∙◌, length, get_or, take}
use Rattle.std.proofs.lemmas.List.{take_more}
use Rattle.pm_bytes.specs.Letter.{is_blank_byte}
use Rattle.pm_recipe.specs.Bytes.{is_empty}
use Rattle.pm_recipe.specs.Joins.{before_blanks}

blank-last : (xs : List ℕ) (y : ℕ) → is_blank_byte y ≡ true → before_blanks (xs ++ y ∷ []) ≡ before_blanks xs
blank-last [] y blank = ap (λ b. cond (b && true) [] (y ∷ [])) blank
blank-last (x ∷ xs) y blank = ap (λ t. cond (is_blank_byte x && is_empty t) [] (x ∷ t)) (blank-last xs y blank)

kept-cons : (b : Bool) (x y : ℕ) (xs : List ℕ) → cond (b && is_empty (xs ++ y ∷ [])) [] (x ∷ (xs ++ y ∷ [])) ≡ x ∷ (xs ++ y ∷ [])
kept-cons false x y xs = refl
kept-cons true x y [] = refl
kept-cons true x y (z ∷ zs) = refl

other-last : (xs : List ℕ) (y : ℕ) → is_blank_byte y ≡ false → before_blanks (xs ++ y ∷ []) ≡ xs ++ y ∷ []
other-last [] y other = ap (λ b. cond (b && true) [] (y ∷ [])) other
other-last (x ∷ xs) y other =
    ap (λ t. cond (is_blank_byte x && is_empty t) [] (x ∷ t)) (other-last xs y other) ∙ kept-cons (is_blank_byte x) x y xs

pub more-blank : (xs : List ℕ) (i : ℕ) → i < length xs → is_blank_byte (get_or xs i 0) ≡ true → before_blanks (take (i + 1) xs) ≡ before_blanks (take i xs)
more-blank xs i h blank = ap before_blanks (take_more xs i 0 h) ∙ blank-last (take i xs) (get_or xs i 0) blank

pub more-other : (xs : List ℕ) (i : ℕ) → i < length xs → is_blank_byte (get_or xs i 0) ≡ false → before_blanks (take (i + 1) xs) ≡ take (i + 1) xs
more-other xs i h other =
    ap before_blanks (take_more xs i 0 h) ∙ other-last (take i xs) (get_or xs i 0) other ∙ sym (take_more xs i 0 h)
