-- The kit's percent-encoding with the constant of the code is that of the definition.
use Rattle.std.proofs.Common.{◌≡◌, ℕ, zero, suc, ◌<◌, Bool, true, false, ◌&&◌, List, [], ◌∷◌, ◌++◌, refl, sym, ap, ◌∙◌, ⊎_elim, arith}
use Rattle.std.specs.Str.{bytes_eq}
use Rattle.std.proofs.lemmas.Bool.{cases_Bool, cond-true, cond-false}
use Rattle.std.proofs.lemmas.Bool.Decides.{Decides-below_and, nat_tests}
use Rattle.std.proofs.lemmas.Slice.Eq.{bytes_eq-Decides}
use Rattle.percent_encoding.proofs.AsciiSetLemmas.{ascii_from_kept}
use Rattle.percent_encoding.specs.AsciiSet.{should_percent_encode}
use Rattle.percent_encoding.specs.Percent.{encode_byte, percent_encode_byte, percent_encode}
use Rattle.check_find.specs.Uris.{byte_in_path, path_of, stands}
use Rattle.check_find.specs.declared.sarif.TheConstants.{ESCAPED}

abbrev all_agree : ℕ → Bool
all_agree zero = true
all_agree (suc n) = bytes_eq (encode_byte ESCAPED n) (byte_in_path n) && all_agree n

ascii_agrees : all_agree 128 ≡ true
unfolding percent_encode_byte should_percent_encode
ascii_agrees = refl

ascii : (b : ℕ) → b < 128 → encode_byte ESCAPED b ≡ byte_in_path b
ascii =
    (Decides-below_and (λ b. bytes_eq (encode_byte ESCAPED b) (byte_in_path b))
    (λ b. encode_byte ESCAPED b ≡ byte_in_path b) all_agree (λ b. bytes_eq-Decides _ _) refl (λ _. refl) 128).0
    ascii_agrees

from_stands : (b : ℕ) → stands b ≡ true → b < 128
from_stands b e = grind (arith, nat_tests)

escaped : (b : ℕ) → should_percent_encode ESCAPED b ≡ true → stands b ≡ false → encode_byte ESCAPED b ≡ byte_in_path b
unfolding percent_encode_byte
escaped b e f = cond-true _ _ _ e ∙ sym (cond-false _ _ _ f)

each : (b : ℕ) → encode_byte ESCAPED b ≡ byte_in_path b
each b =
    ⊎_elim (λ e. ascii b (from_stands b e))
    (λ f. ⊎_elim (λ e. escaped b e f) (λ e. ascii b (ascii_from_kept ESCAPED b e))
    (cases_Bool (should_percent_encode ESCAPED b)))
    (cases_Bool (stands b))

pub path_encoded : (name : List ℕ) → percent_encode ESCAPED name ≡ path_of name
unfolding percent_encode path_of
path_encoded [] = refl
path_encoded (b ∷ rest) =
    ap (λ x. x ++ percent_encode ESCAPED rest) (each b) ∙ ap (λ x. byte_in_path b ++ x) (path_encoded rest)
