-- What came of a condition, in words.
use Rattle.std.specs.Prelude.{ℕ, ℤ, ◌==◌, cond, List, [], ◌++◌, Option, Some, None, codes, decimal}
use Rattle.std.specs.Fmt.{signed_decimal}
use Rattle.pm_journal.specs.LogText.{quoted}
use Rattle.pm_meaning.specs.declared.question.Outcome.{Outcome}
use Rattle.pm_meaning.specs.declared.question.Outcome.TheVariants.{Holds, Matched, Fails, Counted, Compared, Exited, Defective, TooLong}

-- what MATCH is set to
abbrev pub match_told : List ℕ → List ℕ
match_told bytes = codes ", MATCH is \"" ++ quoted bytes ++ codes "\""

-- it, where it is set
abbrev pub maybe_match : Option (List ℕ) → List ℕ
maybe_match None = []
maybe_match (Some bytes) = match_told bytes

-- one match, or several
abbrev pub match_word : ℕ → List ℕ
match_word matches = cond (matches == 1) (codes " match") (codes " matches")

-- how many matches there are
abbrev pub matches_told : ℕ → List ℕ
matches_told matches = decimal matches ++ match_word matches

-- the score of the recipe so far
abbrev pub score_told : ℤ → List ℕ
score_told score = codes ", score " ++ signed_decimal score

-- a length, and the number that it is compared with
abbrev pub sizes_told : ℕ → ℕ → List ℕ
sizes_told length number = decimal length ++ codes " bytes, limit " ++ decimal number

-- what came of a condition, and the score after it
abbrev pub came : Outcome → ℤ → List ℕ
came Holds score = codes "yes"
came (Matched bytes) score = codes "yes" ++ match_told bytes
came Fails score = codes "no"
came (Counted weight matches bytes) score = matches_told matches ++ score_told score ++ maybe_match bytes
came (Compared weight above length number) score = sizes_told length number ++ score_told score
came (Exited weight inverted code) score = codes "exit status " ++ decimal code ++ score_told score
came Defective score = codes "not a condition"
came (TooLong length) score = codes "value too long (" ++ decimal length ++ codes " bytes)"
