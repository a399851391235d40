-- One more byte of an output, a newline or not.
use Rattle.std.proofs.Common.{◌≡◌, ◌≢◌, arith, ◌<◌, ◌+◌, ◌&&◌, cond, ℕ, Bool, true, false, nat_eq, List, [], ◌∷◌, ◌++◌, refl, ap, sym, ◌∙◌, length, get_or, take}
use Rattle.std.proofs.lemmas.Bool.Decides.{nat_tests}
use Rattle.std.proofs.lemmas.List.{take_more}
use Rattle.pm_bytes.specs.Alphabet.{NEWLINE}
use Rattle.pm_subst.specs.Values.{trimmed, is_empty}

trimmed-newline : (xs : List ℕ) → trimmed (xs ++ NEWLINE ∷ []) ≡ trimmed xs
trimmed-newline [] = refl
trimmed-newline (x ∷ xs) = ap (λ t. cond (nat_eq x NEWLINE && is_empty t) [] (x ∷ t)) (trimmed-newline xs)

kept-cons : (b : Bool) (x y : ℕ) (xs : List ℕ) → cond (b && is_empty (xs ++ y ∷ [])) [] (x ∷ (xs ++ y ∷ [])) ≡ x ∷ (xs ++ y ∷ [])
kept-cons false x y xs = refl
kept-cons true x y [] = refl
kept-cons true x y (z ∷ zs) = refl

trimmed-other : (xs : List ℕ) (y : ℕ) → nat_eq y NEWLINE ≡ false → trimmed (xs ++ y ∷ []) ≡ xs ++ y ∷ []
trimmed-other [] y other = rw other refl
trimmed-other (x ∷ xs) y other =
    ap (λ t. cond (nat_eq x NEWLINE && is_empty t) [] (x ∷ t)) (trimmed-other xs y other) ∙ kept-cons (nat_eq x NEWLINE) x y xs

pub trimmed-more-newline : (xs : List ℕ) (i : ℕ) → i < length xs → get_or xs i 0 ≡ NEWLINE → trimmed (take (i + 1) xs) ≡ trimmed (take i xs)
trimmed-more-newline xs i h newline =
    ap trimmed (take_more xs i 0 h) ∙ ap (λ y. trimmed (take i xs ++ y ∷ [])) newline ∙ trimmed-newline (take i xs)

pub trimmed-more-other : (xs : List ℕ) (i : ℕ) → i < length xs → get_or xs i 0 ≢ NEWLINE → trimmed (take (i + 1) xs) ≡ take (i + 1) xs
trimmed-more-other xs i h differs =
    let other : nat_eq (get_or xs i 0) NEWLINE ≡ false = grind (arith, nat_tests) in
    ap trimmed (take_more xs i 0 h) ∙ trimmed-other (take i xs) (get_or xs i 0) other ∙ sym (take_more xs i 0 h)
