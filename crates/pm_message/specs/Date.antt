-- The text of a moment, and the line `From ` with it.
use Rattle.std.specs.Prelude.{ℕ, ◌-◌, ◌/◌, ◌%◌, min, ℤ, pos, negsuc, nat_lt, if◌then◌else◌, List, [], ◌∷◌, ◌++◌, codes, decimal, slice_index_or}
use Rattle.pm_message.specs.Calendar.{day_at}
use Rattle.pm_message.specs.declared.date.Day.{Day}

-- the names of the days of the week, from that of 1 January 1970 on
abbrev pub weekday_names : List (List ℕ)
weekday_names =
    codes "Thu" ∷ codes "Fri" ∷ codes "Sat" ∷ codes "Sun" ∷ codes "Mon" ∷ codes "Tue" ∷ codes "Wed" ∷ []

-- the names of the months
abbrev pub month_names : List (List ℕ)
month_names =
    codes "Jan" ∷ codes "Feb" ∷ codes "Mar" ∷ codes "Apr" ∷ codes "May" ∷ codes "Jun"
    ∷ codes "Jul" ∷ codes "Aug" ∷ codes "Sep" ∷ codes "Oct" ∷ codes "Nov" ∷ codes "Dec" ∷ []

-- the name of the weekday that comes so many days after 1 January 1970
abbrev pub weekday_of : ℕ → List ℕ
weekday_of number = slice_index_or weekday_names (number % 7) []

-- the name of the month with this number, from 1
abbrev pub month_of : ℕ → List ℕ
month_of month = slice_index_or month_names (month - 1) []

-- a number below 100 in two places, of which the first is filled where it has one digit
abbrev pub two_places : List ℕ → ℕ → List ℕ
two_places filler number = if nat_lt number 10 then filler ++ decimal number else decimal number

-- seconds since midnight as `23:59:59`
abbrev pub clock_of : ℕ → List ℕ
clock_of seconds =
    two_places (codes "0") (seconds / 3600) ++ codes ":"
    ++ two_places (codes "0") (seconds / 60 % 60) ++ codes ":"
    ++ two_places (codes "0") (seconds % 60)

-- a day and seconds since its midnight as `Thu Jan  1 00:00:00 1970`
abbrev pub dated : List ℕ → Day → List ℕ → List ℕ
dated weekday day clock =
    weekday ++ codes " " ++ month_of day.month ++ codes " " ++ two_places (codes " ") day.day
    ++ codes " " ++ clock ++ codes " " ++ decimal day.year

-- seconds since 1970, in UTC, as such a text
abbrev pub date_of : ℕ → List ℕ
date_of seconds =
    dated (weekday_of (seconds / 86_400)) (day_at (seconds / 86_400)) (clock_of (seconds % 86_400))

-- the last second of the year 9998
abbrev pub last_moment : ℕ
last_moment = 253_370_764_799

-- a moment before 1970 counts as 1970's first second, and one after the last as the last
abbrev pub moved : ℤ → ℕ
moved (pos seconds) = min seconds last_moment
moved (negsuc before) = 0

-- the line `From ` with a sender and the date of a moment
abbrev pub from_line_of : List ℕ → ℤ → List ℕ
from_line_of who moment = codes "From " ++ who ++ codes " " ++ date_of (moved moment) ++ codes "\n"
