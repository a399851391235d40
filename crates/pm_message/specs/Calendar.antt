-- The days of the civil calendar, from 1 January 1970 on.
use Rattle.std.specs.Prelude.{◌≡◌, ℕ, zero, suc, ◌+◌, ◌-◌, ◌%◌, Bool, not, ◌&&◌, ◌||◌, ◌==◌, nat_lt, if◌then◌else◌}
use Rattle.std.specs.Int.{IsInRange}
use Rattle.pm_message.specs.declared.date.Day.{Day}

-- every fourth year is a leap year, but of the centuries only every fourth
abbrev pub is_leap_year : ℕ → Bool
is_leap_year year = (year % 4 == 0) && (not (year % 100 == 0) || (year % 400 == 0))

-- thirty days have September, April, June and November
abbrev pub days_in_month : ℕ → ℕ → ℕ
days_in_month year month =
    if month == 2 then (if is_leap_year year then 29 else 28)
    else (if (month == 4) || (month == 6) || (month == 9) || (month == 11) then 30 else 31)

-- the day after a day: of the same month, or the first of the next month, or of the next year
abbrev pub day_after : Day → Day
day_after today =
    if nat_lt today.day (days_in_month today.year today.month) then record today { day = today.day + 1 }
    else (if today.month == 12 then record { year = today.year + 1; month = 1; day = 1 }
    else record { year = today.year; month = today.month + 1; day = 1 })

-- the day that comes so many days after 1 January 1970
unfoldable pub day_at : ℕ → Day
day_at zero = record { year = 1970; month = 1; day = 1 }
day_at (suc n) = day_after (day_at n)

-- the days of a year
abbrev pub days_in_year : ℕ → ℕ
days_in_year year = if is_leap_year year then 366 else 365

-- the days of the first n years from 1970 on
unfoldable pub days_of_years : ℕ → ℕ
days_of_years zero = 0
days_of_years (suc n) = days_of_years n + days_in_year (1970 + n)

-- the days of the first n months of a year
unfoldable pub days_of_months : ℕ → ℕ → ℕ
days_of_months year zero = 0
days_of_months year (suc n) = days_of_months year n + days_in_month year (suc n)

-- how many days come before a day: those of the years before its year, of the months before its month, and of its month before it
abbrev pub days_before : Day → ℕ
days_before day = days_of_years (day.year - 1970) + days_of_months day.year (day.month - 1) + (day.day - 1)

-- the calendar has the day, in a year of four digits from 1970 on
abbrev pub IsCalendarDay : Day → Type 0
IsCalendarDay day =
    IsInRange 1970 9999 day.year × IsInRange 1 12 day.month × IsInRange 1 (days_in_month day.year day.month) day.day

-- the one day of the calendar that has so many days before it
pub record IsDayNumber (number : ℕ) (day : Day) : Type 0 where
  pub calendar : IsCalendarDay day
  pub before : days_before day ≡ number
  pub only : (other : Day) → IsCalendarDay other → days_before other ≡ number → other ≡ day
