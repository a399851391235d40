-- A file's name as the path of a URI (RFC 3986, sections 2.1 to 2.4 and 3.3).
use Rattle.std.specs.Prelude.{ℕ, ◌/◌, ◌%◌, Bool, true, ◌||◌, List, [], ◌∷◌, nat_eq, if◌then◌else◌}
use Rattle.std.specs.Char.{is_ascii_alphanumeric}
use Rattle.std.specs.Fmt.{digit_glyph}
use Rattle.std.specs.List.{flat_map}

-- an unreserved character: a letter, a digit, `-`, `.`, `_` or `~`
abbrev pub is_unreserved : ℕ → Bool
is_unreserved byte =
    is_ascii_alphanumeric byte || nat_eq byte 45 || nat_eq byte 46 || nat_eq byte 95 || nat_eq byte 126

-- What stands as it is: the unreserved, and the slash between two names. A path may have some of the reserved ones, too;
-- in a name each of them is data, and a `:` in the first name would end that of a scheme.
abbrev pub stands : ℕ → Bool
stands byte = is_unreserved byte || nat_eq byte 47

-- `%` and two hexadecimal digits, in capitals
abbrev pub escape_of : ℕ → List ℕ
escape_of byte = 37 ∷ (digit_glyph true (byte / 16 % 16) ∷ (digit_glyph true (byte % 16) ∷ []))

-- what a byte becomes
abbrev pub byte_in_path : ℕ → List ℕ
byte_in_path byte = if stands byte then byte ∷ [] else escape_of byte

-- what a name becomes
unfoldable pub path_of : List ℕ → List ℕ
path_of name = flat_map byte_in_path name
