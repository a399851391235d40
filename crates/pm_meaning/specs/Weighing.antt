-- What comes of a condition with a weight (procmailsc(5)).
use Rattle.std.specs.Prelude.{ℕ, Bool, true, false, not, List, Option, Some, None, max, ℤ, pos, neg_ℤ, int_le, if◌then◌else◌}
use Rattle.pm_regex.specs.Re.{Whole}
use Rattle.pm_regex.specs.declared.found.Found.{Found}
use Rattle.pm_regex.proofs.CountOf.{count_of}
use Rattle.pm_meaning.specs.declared.question.Factors.{Factors}
use Rattle.pm_meaning.specs.declared.question.Outcome.{Outcome}
use Rattle.pm_meaning.specs.declared.question.Outcome.TheVariants.{Counted, Compared, Defective}
use Rattle.pm_meaning.specs.declared.question.Judgement.{Judgement}
use Rattle.pm_meaning.specs.declared.question.Judgement.TheVariants.{Matched, Unmatched}
use Rattle.pm_meaning.specs.Searching.{match_in, match_text, search_outcome}

-- how many matches of the expression stand in the area
abbrev pub count_in : Bool → Whole → List ℕ → ℕ
count_in distinguish e area = (count_of (not distinguish) e area).0

-- the bytes that MATCH gets, where the expression has a `\/`
abbrev pub match_bytes : List ℕ → Option ℕ → ℕ → Option (List ℕ)
match_bytes area None end = None
match_bytes area (Some cut) end = Some (match_text area cut end)

-- the matches that count: where one is found there is one at least, and an inverted condition has one where none is found
abbrev pub counted_outcome : Factors → Bool → List ℕ → Option Found → ℕ → Outcome
counted_outcome weight inverted area None n = Counted weight (if inverted then 1 else 0) None
counted_outcome weight true area (Some found) n = Counted weight 0 None
counted_outcome weight false area (Some found) n = Counted weight (max 1 n) (match_bytes area found.cut found.end)

-- what comes of an expression with a weight, if the text is one
abbrev pub weighed_search : Factors → Bool → Bool → List ℕ → Option Whole → Outcome
weighed_search weight inverted distinguish area None = Defective
weighed_search weight inverted distinguish area (Some e) = counted_outcome weight inverted area (match_in distinguish e area) (count_in distinguish e area)

-- what comes of an expression, with a weight or without one
abbrev pub sought_outcome : Option Factors → Bool → Bool → List ℕ → Option Whole → Outcome
sought_outcome None inverted distinguish area e = search_outcome inverted distinguish area e
sought_outcome (Some weight) inverted distinguish area e = weighed_search weight inverted distinguish area e

-- what comes of a size with a weight: inverted it is a defect
abbrev pub weighed_size : Factors → Bool → Bool → ℕ → Option ℕ → Outcome
weighed_size weight inverted above size None = Defective
weighed_size weight true above size (Some number) = Defective
weighed_size weight false above size (Some number) = Compared weight above size number

-- a score at the upper end matches the recipe, one at the lower end doesn't, and either ends the judging
abbrev pub end_at : ℤ → Option Judgement
end_at total =
    if int_le (pos 2147483647) total then Some Matched
    else if int_le total (neg_ℤ (pos 2147483647)) then Some Unmatched
    else None

-- where all conditions were judged, a recipe with a weight matches if the score is above 0, and one without matches
abbrev pub end_of_all : Bool → ℤ → Judgement
end_of_all false total = Matched
end_of_all true total = if int_le total (pos 0) then Unmatched else Matched
