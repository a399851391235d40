-- Parts of texts, by the text from a place on; no bytes stand for no place.
use Rattle.std.specs.Prelude.{ℕ, ◌-◌, Bool, true, false, not, List, [], ◌∷◌, take, length, nat_eq, nat_lt, if◌then◌else◌, codes, Option, Some, None, position}
use Rattle.std.specs.List.{starts_with}
use Rattle.std.specs.Str.{bytes_eq}
use Rattle.pm_bytes.specs.Letter.{is_blank_byte, is_digit_byte}
use Rattle.pm_bytes.specs.Number.{count_of}
use Rattle.check_moving.specs.Text.{from_place}
use Rattle.check_moving.specs.Words.{is_break_byte}

-- from the first place of a part on
abbrev pub from_part : List ℕ → List ℕ → List ℕ
from_part part [] = []
from_part part (byte ∷ rest) = if starts_with nat_eq (byte ∷ rest) part then byte ∷ rest else from_part part rest

-- without the digits at the front
abbrev pub after_digits : List ℕ → List ℕ
after_digits text = from_place text (position (λ byte. not (is_digit_byte byte)) text)

-- from the first blank on
abbrev pub from_blank : List ℕ → List ℕ
from_blank text = from_place text (position (λ byte. is_blank_byte byte) text)

-- what is before a rest of a text
abbrev pub before : List ℕ → List ℕ → List ℕ
before text rest = take (length text - length rest) text

-- a number above this one; one of more than 18 digits is
abbrev pub exceeds : ℕ → List ℕ → Option ℕ → Bool
exceeds most digits None = not (bytes_eq digits (codes ""))
exceeds most digits (Some number) = nat_lt most number

-- the digits at the front of a text write such a number
abbrev pub is_above : ℕ → List ℕ → Bool
is_above most text = exceeds most (before text (after_digits text)) (count_of (before text (after_digits text)))

-- a command ends here
abbrev pub ends_command : List ℕ → Bool
ends_command [] = true
ends_command (byte ∷ rest) = is_break_byte byte

-- some bytes stand here
abbrev pub is_some : List ℕ → Bool
is_some [] = false
is_some (byte ∷ rest) = true
