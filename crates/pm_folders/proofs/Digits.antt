-- No byte of a number's text is 0.
use Rattle.std.proofs.Common.{◌≡◌, ◌<◌, ◌+◌, ◌^◌, ◌%◌, ℕ, ℤ, pos, negsuc, false, List, [], ◌∷◌, ◌++◌, decimal, arith, ap, ◌∙◌, suc, ◌==◌, ◌||◌}
use Rattle.std.proofs.lemmas.List.Folds.{list_any-append}
use lib.Signed.{mag}
use Rattle.std.specs.Fmt.{signed_decimal}
use Rattle.std.proofs.lemmas.Fmt.{decimal_by_steps}
use Rattle.std.proofs.lemmas.Bool.Decides.{nat_tests}
use Rattle.pm_bytes.specs.Name.{has_zero}

one_digit : (n : ℕ) → has_zero ((48 + n) ∷ []) ≡ false
one_digit n = grind (arith, nat_tests)

more_digits : (n : ℕ) (ds : List ℕ) → has_zero ds ≡ false → has_zero (ds ++ ((48 + n) ∷ [])) ≡ false
more_digits n ds h = list_any-append (λ b. b == 0) ds ((48 + n) ∷ []) ∙ ap (λ b. b || has_zero ((48 + n) ∷ [])) h ∙ one_digit n

pub no_zero : (n : ℕ) → n < 2 ^ 64 → has_zero (decimal n) ≡ false
no_zero n h = decimal_by_steps (λ k ds. has_zero ds ≡ false) (λ k small. one_digit k) (λ k ds big e. more_digits (k % 10) ds e) n h

pub no_zero_signed : (z : ℤ) → mag z < 2 ^ 63 → has_zero (signed_decimal z) ≡ false
no_zero_signed (pos n) h = no_zero n (omega arith)
no_zero_signed (negsuc n) h = no_zero (suc n) (omega arith)
