-- Parts of texts.
use Rattle.std.specs.Prelude.{ℕ, ◌-◌, Bool, false, not, ◌||◌, List, [], ◌∷◌, drop, Option, Some, None, length, take, codes, ◌&&◌, nat_eq, nat_le, if◌then◌else◌, position}
use Rattle.std.specs.List.{starts_with, ends_with}
use Rattle.pm_bytes.specs.Letter.{is_blank_byte, is_name_byte}

-- whether a part stands somewhere in a text
abbrev pub has_part : List ℕ → List ℕ → Bool
has_part part [] = false
has_part part (byte ∷ rest) = starts_with nat_eq (byte ∷ rest) part || has_part part rest

-- the text from a place on
abbrev pub from_place : List ℕ → Option ℕ → List ℕ
from_place text None = []
from_place text (Some place) = drop place text

-- without the blanks at the front
abbrev pub after_blanks : List ℕ → List ℕ
after_blanks text = from_place text (position (λ byte. not (is_blank_byte byte)) text)

-- without the bytes of a name at the front
abbrev pub behind_name : List ℕ → List ℕ
behind_name text = from_place text (position (λ byte. not (is_name_byte byte)) text)

-- without double quotes around it
abbrev pub without_quotes : List ℕ → List ℕ
without_quotes text =
    if nat_le 2 (length text) && starts_with nat_eq text (codes "\"") && ends_with nat_eq text (codes "\"")
    then take (length text - 2) (drop 1 text) else text
