-- Where a place stands in its line.
use Rattle.std.specs.Prelude.{ℕ, ◌+◌, ◌-◌, List, length, take, Option, None, Some}
use Rattle.memchr.specs.Find.{is_byte, places, last_of}
use Rattle.pm_bytes.specs.Alphabet.{NEWLINE}

-- the last newline of a text
abbrev pub last_newline : List ℕ → Option ℕ
last_newline text = last_of (places (is_byte NEWLINE) text)

-- the column after a text, by its last newline
abbrev pub column_after : List ℕ → Option ℕ → ℕ
column_after text None = length text + 1
column_after text (Some newline) = length text - newline

-- the column of a place, from 1
abbrev pub column_of : List ℕ → ℕ → ℕ
column_of text place = column_after (take place text) (last_newline (take place text))
