-- What one more line of a log does to the lines that count.
use Rattle.std.proofs.Common.{◌≡◌, Bool, true, false, cond, List, ◌∷◌, ℕ, refl, sym, ap, ◌∙◌, Option, Some, None, fold}
use Rattle.log_summary.specs.Days.{from_day, awaited_after, is_before, day_of_line}
use Rattle.log_summary.specs.declared.date.Day.{Day}

-- once no day is waited for, the line and all after it count
pub counts_from : (awaited : Option Day) (line : List ℕ) (rest : List (List ℕ))
    → awaited_after awaited (day_of_line line) ≡ None → from_day awaited (line ∷ rest) ≡ line ∷ rest
counts_from None line rest none = refl
counts_from (Some first) line rest none = by (is_before first (day_of_line line)) none
  where
    by : (b : Bool) → cond b (Some first) None ≡ None → cond b (from_day (Some first) rest) (line ∷ rest) ≡ line ∷ rest
    by true none = absurd (let e : Some first ≡ None = none in cc)
    by false none = refl

-- else the line doesn't count
pub counts_later : (awaited : Option Day) (line : List ℕ) (rest : List (List ℕ)) (first : Day)
    → awaited_after awaited (day_of_line line) ≡ Some first → from_day awaited (line ∷ rest) ≡ from_day (Some first) rest
counts_later None line rest first some = absurd (let e : None ≡ Some first = some in cc)
counts_later (Some other) line rest first some = by (is_before other (day_of_line line)) some
  where
    by : (b : Bool) → cond b (Some other) None ≡ Some first
        → cond b (from_day (Some other) rest) (line ∷ rest) ≡ from_day (Some first) rest
    by true some = cc
    by false some = absurd (let e : None ≡ Some first = some in cc)

-- sums over the lines that count
module _ {R : Type 0} (f : R → List ℕ → R) (awaited : Option Day) (line : List ℕ) (rest : List (List ℕ)) (rows target : R) where
  pub line_counts : awaited_after awaited (day_of_line line) ≡ None
      → fold f rows (from_day awaited (line ∷ rest)) ≡ target → fold f (f rows line) (from_day None rest) ≡ target
  line_counts none before = ap (fold f rows) (sym (counts_from awaited line rest none)) ∙ before

  pub line_is_skipped : (first : Day) → awaited_after awaited (day_of_line line) ≡ Some first
      → fold f rows (from_day awaited (line ∷ rest)) ≡ target → fold f rows (from_day (Some first) rest) ≡ target
  line_is_skipped first some before = ap (fold f rows) (sym (counts_later awaited line rest first some)) ∙ before
