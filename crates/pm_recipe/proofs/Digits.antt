-- Digits make a number no smaller.
use Rattle.std.proofs.Common.{◌≡◌, ◌≤◌, ◌<◌, ◌-◌, ◌*◌, ◌+◌, ◌^◌, ℕ, suc, List, [], ◌∷◌, arith, ap, sym, ◌∙◌, drop, drop-cons, get_or, length, true, nat_lt}
use Rattle.std.proofs.lemmas.Bool.Decides.{nat_tests}
use Rattle.std.proofs.Math.Nat.{pow-suc}
use Rattle.pm_bytes.specs.Number.{decimal_value}
use Rattle.pm_recipe.specs.Weights.{digits_value}

pub digits-grow : (value : ℕ) (text : List ℕ) → value ≤ digits_value value text
digits-grow value [] = omega arith
digits-grow value (byte ∷ bytes) = omega (arith, digits-grow (10 * value + (byte - 48)) bytes)

-- a number that is past the most stays so
pub past-most : (most value i : ℕ) (text : List ℕ) → digits_value 0 text ≡ digits_value value (drop i text) → i < length text
    → most < 10 * value + (get_or text i 0 - 48) → nat_lt most (digits_value 0 text) ≡ true
past-most most value i text is h over =
    let e : digits_value 0 text ≡ digits_value (10 * value + (get_or text i 0 - 48)) (drop (suc i) text) =
    is ∙ ap (digits_value value) (drop-cons text i 0 h) in
    let low : 10 * value + (get_or text i 0 - 48) ≤ digits_value (10 * value + (get_or text i 0 - 48)) (drop (suc i) text) =
    digits-grow (10 * value + (get_or text i 0 - 48)) (drop (suc i) text) in
    let big : most < digits_value 0 text = omega (arith, e, low, over) in
    grind (arith, nat_tests)

-- one place less is ten times as much
carried : (value d p rest : ℕ) → (10 * value + d) * p + rest ≡ value * (p * 10) + (d * p + rest)
carried value d p rest = grind arith

-- digits that are read after others, place by place
pub digits-places : (value : ℕ) (text : List ℕ) → digits_value value text ≡ value * 10 ^ length text + decimal_value text
digits-places value [] = omega arith
digits-places value (byte ∷ bytes) =
    digits-places (10 * value + (byte - 48)) bytes ∙ carried value (byte - 48) (10 ^ length bytes) (decimal_value bytes)
    ∙ ap (λ places. value * places + ((byte - 48) * 10 ^ length bytes + decimal_value bytes)) (sym (pow-suc 10 (length bytes)))

pub digits-decimal : (text : List ℕ) → digits_value 0 text ≡ decimal_value text
digits-decimal text = (let e = digits-places 0 text in omega (arith, e))
