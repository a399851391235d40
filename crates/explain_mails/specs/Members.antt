-- The members of objects, as tokens of JSON.
use Rattle.std.specs.Prelude.{◌≡◌, ℕ, ℤ, Bool, List, [], ◌∷◌, ◌++◌, map, Option, Some, None, decimal, encode_utf8_all}
use Rattle.std.specs.Fmt.{signed_decimal}
use Rattle.bstr.specs.Utf8.{lossy_chars}
use Rattle.json.specs.Token.{Token, begin_array, end_array, key, string, number, boolean, null}
use Rattle.json.specs.Written.{Written}

-- these tokens come behind what was written
abbrev pub Adds : Written → Written → List Token → Type 0
Adds old new ts = (new.before ≡ old.before) × (new.tokens ≡ old.tokens ++ ts)

-- a text, with U+FFFD for what is no UTF-8
abbrev pub text_token : List ℕ → Token
text_token bytes = string (encode_utf8_all (lossy_chars bytes))

abbrev pub text_member : List ℕ → List ℕ → List Token
text_member name bytes = key name ∷ text_token bytes ∷ []

-- a text that may be missing
abbrev pub maybe_member : List ℕ → Option (List ℕ) → List Token
maybe_member name None = key name ∷ null ∷ []
maybe_member name (Some bytes) = text_member name bytes

abbrev pub number_member : List ℕ → ℕ → List Token
number_member name n = key name ∷ number (decimal n) ∷ []

-- a number that may be missing
abbrev pub maybe_number_member : List ℕ → Option ℕ → List Token
maybe_number_member name None = key name ∷ null ∷ []
maybe_number_member name (Some n) = number_member name n

-- a number that may be negative
abbrev pub signed_member : List ℕ → ℤ → List Token
signed_member name n = key name ∷ number (signed_decimal n) ∷ []

abbrev pub truth_member : List ℕ → Bool → List Token
truth_member name truth = key name ∷ boolean truth ∷ []

-- a list of texts
abbrev pub texts_member : List ℕ → List (List ℕ) → List Token
texts_member name texts = key name ∷ begin_array ∷ (map text_token texts ++ end_array ∷ [])
