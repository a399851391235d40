-- A word around its first `=`.
use Rattle.std.proofs.Common.{◌≡◌, ◌+◌, ℕ, Bool, true, false, cond, List, [], ◌∷◌, length, take, drop, refl, sym, ap, ◌∙◌, arith, ◌||◌, ◌==◌, not}
use Rattle.std.specs.List.{list_any, position_or_len, before_first, after_first}
use Rattle.std.proofs.lemmas.List.{take-append-drop}
use Rattle.std.proofs.lemmas.List.Folds.{list_any-append}
use Rattle.pm_bytes.specs.Name.{has_zero}
use Rattle.pm_top.specs.Words.{is_equals}

-- no `=` stands there
pub no_equals : (word : List ℕ) → position_or_len is_equals word ≡ length word → list_any is_equals word ≡ false
no_equals [] h = refl
no_equals (byte ∷ more) h =
    elim (is_equals byte) as (λ t. cond (not t) (1 + position_or_len is_equals more) 0 ≡ length (byte ∷ more) → t || list_any is_equals more ≡ false) [
      | true ↦ λ e. absurd (omega arith)
      | false ↦ λ e. no_equals more (omega arith)
    ] h

both_false : (a b : Bool) → (a || b) ≡ false → (a ≡ false) × (b ≡ false)
both_false true b h = absurd (cc)
both_false false b h = (refl, h)

parts : (k : ℕ) (word : List ℕ) → has_zero word ≡ false → (has_zero (take k word) ≡ false) × (has_zero (drop k word) ≡ false)
parts k word h = both_false (has_zero (take k word)) (has_zero (drop k word)) (sym (list_any-append (λ b. b == 0) (take k word) (drop k word)) ∙ ap has_zero (take-append-drop k word) ∙ h)

-- a part of a word without the byte 0 has none
pub no_zero_before : (word : List ℕ) → has_zero word ≡ false → has_zero (before_first is_equals word) ≡ false
no_zero_before word h = (parts (position_or_len is_equals word) word h).0

pub no_zero_after : (word : List ℕ) → has_zero word ≡ false → has_zero (after_first is_equals word) ≡ false
no_zero_after word h = (parts (position_or_len is_equals word + 1) word h).1
