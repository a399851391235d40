-- The days of a log: of each mail its line `From ` stands before its other lines, with the moment at its end.
use Rattle.std.specs.Prelude.{ℕ, ◌-◌, Bool, ◌&&◌, false, true, List, [], ◌∷◌, length, slice_index, take, drop, Option, None, Some, nat_eq, nat_le, nat_lt, if◌then◌else◌, codes}
use Rattle.std.specs.Str.{bytes_eq}
use Rattle.std.specs.List.{starts_with}
use Rattle.pm_bytes.specs.Number.{count_of}
use Rattle.pm_bytes.specs.Alphabet.{MINUS, SPACE}
use Rattle.log_summary.specs.declared.date.Day.{Day}

-- the number of a month's name
abbrev pub month_of : List ℕ → Option ℕ
month_of name =
    if bytes_eq name (codes "Jan") then Some 1
    else if bytes_eq name (codes "Feb") then Some 2
    else if bytes_eq name (codes "Mar") then Some 3
    else if bytes_eq name (codes "Apr") then Some 4
    else if bytes_eq name (codes "May") then Some 5
    else if bytes_eq name (codes "Jun") then Some 6
    else if bytes_eq name (codes "Jul") then Some 7
    else if bytes_eq name (codes "Aug") then Some 8
    else if bytes_eq name (codes "Sep") then Some 9
    else if bytes_eq name (codes "Oct") then Some 10
    else if bytes_eq name (codes "Nov") then Some 11
    else if bytes_eq name (codes "Dec") then Some 12
    else None

-- a day of the month, before whose only digit a blank stands
abbrev pub day_of : List ℕ → Option ℕ
day_of [] = None
day_of (byte ∷ rest) = if nat_eq byte SPACE then count_of rest else count_of (byte ∷ rest)

-- a day, where each part of it is one
abbrev pub joined : Option ℕ → Option ℕ → Option ℕ → Option Day
joined (Some year) (Some month) (Some day) = Some (record { year = year; month = month; day = day })
joined _ _ _ = None

-- the day of a moment such as `Thu Jan  1 00:00:00 1970`
abbrev pub day_of_moment : List ℕ → Option Day
day_of_moment text =
    joined (count_of (take 4 (drop 20 text))) (month_of (take 3 (drop 4 text))) (day_of (take 2 (drop 8 text)))

-- a day as `2026-01-31`
abbrev pub day_written : List ℕ → Option Day
day_written text =
    if nat_eq (length text) 10 && nat_eq (slice_index text 4) MINUS && nat_eq (slice_index text 7) MINUS
    then joined (count_of (take 4 text)) (count_of (take 2 (drop 5 text))) (count_of (drop 8 text))
    else None

-- the day of a line `From ` with a moment in its last 24 bytes
abbrev pub day_of_line : List ℕ → Option Day
day_of_line line =
    if starts_with nat_eq line (codes "From ") && nat_le 29 (length line) then day_of_moment (drop (length line - 24) line) else None

-- a day before another
abbrev pub is_earlier : Day → Day → Bool
is_earlier one other =
    if nat_eq one.year other.year
    then (if nat_eq one.month other.month then nat_lt one.day other.day else nat_lt one.month other.month)
    else nat_lt one.year other.year

-- a line before the first day: it has no day, or an earlier one
abbrev pub is_before : Day → Option Day → Bool
is_before first None = true
is_before first (Some day) = is_earlier day first

-- the day that is waited for after a line: none once the first line of that day or a later one has come
abbrev pub awaited_after : Option Day → Option Day → Option Day
awaited_after None day = None
awaited_after (Some first) day = if is_before first day then Some first else None

-- the lines from the first of that day or a later one on; all where no day is given
abbrev pub from_day : Option Day → List (List ℕ) → List (List ℕ)
from_day None lines = lines
from_day (Some first) [] = []
from_day (Some first) (line ∷ rest) = if is_before first (day_of_line line) then from_day (Some first) rest else line ∷ rest
