-- The operators of expressions, and how far names, quotes and commands reach.
use Rattle.std.specs.Prelude.{ℕ, ◌+◌, List, [], ◌∷◌, if◌then◌else◌, nat_eq, Bool, false, true, not, ◌&&◌, ◌||◌}
use Rattle.pm_bytes.specs.Alphabet.{BACKSLASH, SINGLE_QUOTE, DOUBLE_QUOTE, BACKQUOTE, CLOSE_BRACE, HASH, CARET, DOLLAR, DOT, STAR, PLUS, QUESTION, BAR, OPEN_PARENTHESIS, CLOSE_PARENTHESIS, OPEN_BRACKET, CLOSE_BRACKET}
use Rattle.pm_bytes.specs.Letter.{is_name_byte, is_space_byte}

-- ^ $ . * + ? | ( ) [ ] and the backslash
abbrev pub is_operator : ℕ → Bool
is_operator byte =
    nat_eq byte CARET || nat_eq byte DOLLAR || nat_eq byte DOT || nat_eq byte STAR || nat_eq byte PLUS || nat_eq byte QUESTION
    || nat_eq byte BAR || nat_eq byte OPEN_PARENTHESIS || nat_eq byte CLOSE_PARENTHESIS || nat_eq byte OPEN_BRACKET
    || nat_eq byte CLOSE_BRACKET || nat_eq byte BACKSLASH

-- a byte that can mean more than itself inside double quotes, or where they aren't open
abbrev pub can_mean : Bool → ℕ → Bool
can_mean quoted byte =
    nat_eq byte BACKSLASH || nat_eq byte DOLLAR || nat_eq byte DOUBLE_QUOTE || nat_eq byte BACKQUOTE || nat_eq byte CLOSE_BRACE
    || not quoted && (nat_eq byte SINGLE_QUOTE || nat_eq byte HASH || is_space_byte byte)

-- how many bytes at the front can't
abbrev pub plain_length : Bool → List ℕ → ℕ
plain_length quoted [] = 0
plain_length quoted (byte ∷ bytes) = if can_mean quoted byte then 0 else plain_length quoted bytes + 1

-- how many bytes at the front belong to a name that has begun
abbrev pub name_length : List ℕ → ℕ
name_length [] = 0
name_length (byte ∷ bytes) = if is_name_byte byte then name_length bytes + 1 else 0

-- how many bytes stand before the closing single quote
abbrev pub quote_length : List ℕ → ℕ
quote_length [] = 0
quote_length (byte ∷ bytes) = if nat_eq byte SINGLE_QUOTE then 0 else quote_length bytes + 1

-- how many bytes stand before the closing backquote, with the first after a backslash or not
abbrev pub command_length : Bool → List ℕ → ℕ
command_length escaped [] = 0
command_length true (byte ∷ bytes) = command_length false bytes + 1
command_length false (byte ∷ bytes) = if nat_eq byte BACKQUOTE then 0 else command_length (nat_eq byte BACKSLASH) bytes + 1
