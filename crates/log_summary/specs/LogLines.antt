-- What the lines of a log tell.
use Rattle.std.specs.Prelude.{ℕ, ◌+◌, List, [], ◌∷◌, length, take, drop, Option, None, Some, option_map, nat_eq, if◌then◌else◌, codes}
use Rattle.std.specs.List.{starts_with}
use Rattle.std.specs.Char.{is_whitespace}
use Rattle.memchr.specs.Find.{is_byte2, places, last_of}
use Rattle.bstr.specs.Trim.{trim_end_by}
use Rattle.pm_bytes.specs.Alphabet.{SPACE, TAB}
use Rattle.pm_bytes.specs.Number.{count_of}

-- the folder's name and the mail's size, where this blank is the last one
abbrev pub parted_at : List ℕ → Option ℕ → Option (List ℕ × ℕ)
parted_at text None = None
parted_at text (Some place) =
    option_map (λ size. (trim_end_by is_whitespace (take place text), size)) (count_of (drop (place + 1) text))

-- a folder's name and a mail's size, with blanks between them
abbrev pub name_and_size : List ℕ → Option (List ℕ × ℕ)
name_and_size text = parted_at text (last_of (places (is_byte2 SPACE TAB) text))

-- what a line tells after these first bytes
abbrev pub after_front : List ℕ → List ℕ → Option (List ℕ)
after_front front line = if starts_with nat_eq line front then Some (drop (length front) line) else None

-- the line of an abstract that says where the mail went
abbrev pub delivery_in : List ℕ → Option (List ℕ × ℕ)
delivery_in line = if starts_with nat_eq line (codes "  Folder: ") then name_and_size (drop 10 line) else None

-- the line of a message
abbrev pub message_in : List ℕ → Option (List ℕ)
message_in line = after_front (codes "procmail: ") line
