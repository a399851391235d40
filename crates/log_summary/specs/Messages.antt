-- The kind of a message: its text without the names in it and with `N` for each number.
use Rattle.std.specs.Prelude.{ℕ, Bool, false, List, [], ◌∷◌, if◌then◌else◌, ◌==◌, length, take, position}
use Rattle.std.specs.Option.{unwrap_or}
use Rattle.std.specs.Char.{is_whitespace}
use Rattle.bstr.specs.Trim.{trim_end_by}
use Rattle.pm_bytes.specs.Letter.{is_digit_byte}

-- whether a digit comes first
abbrev pub begins_with_digit : List ℕ → Bool
begins_with_digit [] = false
begins_with_digit (byte ∷ rest) = is_digit_byte byte

-- each run of digits is one `N`
abbrev pub numbers_as_one : List ℕ → List ℕ
numbers_as_one [] = []
numbers_as_one (byte ∷ rest) =
    if is_digit_byte byte then (if begins_with_digit rest then numbers_as_one rest else 78 ∷ numbers_as_one rest)
    else byte ∷ numbers_as_one rest

-- a double quote
abbrev pub is_quote : ℕ → Bool
is_quote byte = byte == 34

-- what stands before the first double quote
abbrev pub front : List ℕ → List ℕ
front text = take (unwrap_or (position is_quote text) (length text)) text

-- the front without blanks at its end
abbrev pub kind : List ℕ → List ℕ
kind text = numbers_as_one (trim_end_by is_whitespace (front text))
