-- The bytes that mean something in an expression, by their names.
use Rattle.std.specs.Prelude.{ℕ, List, [], ◌∷◌, codes}

-- the first byte of a text
abbrev pub first_of : List ℕ → ℕ
first_of [] = 0
first_of (b ∷ u) = b

-- what opens a group
abbrev pub OPEN : ℕ
OPEN = first_of (codes "(")

-- what closes a group
abbrev pub CLOSE : ℕ
CLOSE = first_of (codes ")")

-- what stands between two branches
abbrev pub BAR : ℕ
BAR = first_of (codes "|")

-- what repeats a piece, or none of it
abbrev pub STAR : ℕ
STAR = first_of (codes "*")

-- what repeats a piece
abbrev pub PLUS : ℕ
PLUS = first_of (codes "+")

-- what asks for a piece or none
abbrev pub QUESTION_MARK : ℕ
QUESTION_MARK = first_of (codes "?")

-- what stands for any byte of a line
abbrev pub DOT : ℕ
DOT = first_of (codes ".")

-- what stands for the end of a line
abbrev pub DOLLAR : ℕ
DOLLAR = first_of (codes "$")

-- what opens a bracket expression
abbrev pub BRACKET : ℕ
BRACKET = first_of (codes "[")

-- what closes a bracket expression
abbrev pub CLOSING_BRACKET : ℕ
CLOSING_BRACKET = first_of (codes "]")

-- what takes the next byte as it is, or gives it a meaning
abbrev pub BACKSLASH : ℕ
BACKSLASH = first_of (codes "\\")

-- what stands for the start of a line, twice for an edge of the area, and says that a bracket expression is of the other bytes
abbrev pub CARET : ℕ
CARET = first_of (codes "^")

-- what stands between the first and the last byte of a range
abbrev pub DASH : ℕ
DASH = first_of (codes "-")

-- what after a backslash makes the cut
abbrev pub SLASH : ℕ
SLASH = first_of (codes "/")

-- what after a backslash stands for the start of a word
abbrev pub LESS : ℕ
LESS = first_of (codes "<")

-- what after a backslash stands for the end of a word
abbrev pub GREATER : ℕ
GREATER = first_of (codes ">")
