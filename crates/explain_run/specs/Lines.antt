-- The lines of a run whose programs at some places were started.
use Rattle.std.specs.Prelude.{ℕ, ◌+◌, ◌-◌, ◌^◌, min, Bool, ◌&&◌, ◌||◌, nat_eq, List, [], ◌∷◌, ◌++◌, length, map, take, codes, if◌then◌else◌}
use Rattle.std.specs.List.{starts_with, ends_with}
use Rattle.bstr.specs.Text.{lines_of, without_terminator}
use Rattle.explain_run.specs.Scripts.{was_started}

-- it says that no process was started
abbrev pub is_marked : List ℕ → Bool
is_marked line = ends_with nat_eq line (codes " [not started]")

-- it is that of a program, which ended or couldn't be run
abbrev pub is_run : List ℕ → Bool
is_run line = starts_with nat_eq line (codes "  run ") && (is_marked line || ends_with nat_eq line (codes ": not done"))

-- it is the last one: where the mail went
abbrev pub is_result : List ℕ → Bool
is_result line = (starts_with nat_eq line (codes "delivered to ") || starts_with nat_eq line (codes "not delivered,")) && ends_with nat_eq line (codes ". Nothing was changed.")

-- the line without its end of so many bytes
abbrev pub without_end : ℕ → List ℕ → List ℕ
without_end count line = take (length line - count) line

-- the line of a program that was started
abbrev pub started_line : List ℕ → List ℕ
started_line line = if is_marked line then without_end 14 line else line

-- the last line, where programs were started
abbrev pub result_line : List ℕ → List ℕ
result_line line = if is_result line then without_end 20 line ++ codes "Programs were started; nothing else was changed." else line

-- a line before which so many programs come
abbrev pub line_told : List ℕ → ℕ → List ℕ → List ℕ
line_told started place line =
    if is_run line then (if was_started started place then started_line line else line) else result_line line

-- how many programs come before the next line
abbrev pub place_after : ℕ → List ℕ → ℕ
place_after place line = if is_run line then min (place + 1) (2 ^ 64 - 1) else place

-- the lines, each with its end
abbrev pub lines_from : List ℕ → ℕ → List (List ℕ) → List ℕ
lines_from started place [] = []
lines_from started place (line ∷ lines) = (line_told started place line ++ codes "\n") ++ lines_from started (place_after place line) lines

-- the text of a run, whose programs at these places were started
abbrev pub with_started : List ℕ → List ℕ → List ℕ
with_started started text = lines_from started 0 (map without_terminator (lines_of text))
