-- The bytes that have a name.
use Rattle.std.specs.Prelude.{ℕ, [], ◌∷◌, ◌≡◌, codes}
use Rattle.std.proofs.Common.{refl}

-- a space
abbrev pub SPACE : ℕ
SPACE = 32

-- a tab
abbrev pub TAB : ℕ
TAB = 9

-- a newline
abbrev pub NEWLINE : ℕ
NEWLINE = 10

-- `\`
abbrev pub BACKSLASH : ℕ
BACKSLASH = 92

-- `'`
abbrev pub SINGLE_QUOTE : ℕ
SINGLE_QUOTE = 39

-- `"`
abbrev pub DOUBLE_QUOTE : ℕ
DOUBLE_QUOTE = 34

-- a backquote
abbrev pub BACKQUOTE : ℕ
BACKQUOTE = 96

-- `$`
abbrev pub DOLLAR : ℕ
DOLLAR = 36

-- `#`
abbrev pub HASH : ℕ
HASH = 35

-- `:`
abbrev pub COLON : ℕ
COLON = 58

-- `_`
abbrev pub UNDERSCORE : ℕ
UNDERSCORE = 95

-- `{`
abbrev pub OPEN_BRACE : ℕ
OPEN_BRACE = 123

-- `}`
abbrev pub CLOSE_BRACE : ℕ
CLOSE_BRACE = 125

-- `(`
abbrev pub OPEN_PARENTHESIS : ℕ
OPEN_PARENTHESIS = 40

-- `)`
abbrev pub CLOSE_PARENTHESIS : ℕ
CLOSE_PARENTHESIS = 41

-- `[`
abbrev pub OPEN_BRACKET : ℕ
OPEN_BRACKET = 91

-- `]`
abbrev pub CLOSE_BRACKET : ℕ
CLOSE_BRACKET = 93

-- `=`
abbrev pub EQUALS : ℕ
EQUALS = 61

-- `|`
abbrev pub BAR : ℕ
BAR = 124

-- `!`
abbrev pub BANG : ℕ
BANG = 33

-- `*`
abbrev pub STAR : ℕ
STAR = 42

-- `?`
abbrev pub QUESTION : ℕ
QUESTION = 63

-- `^`
abbrev pub CARET : ℕ
CARET = 94

-- `.`
abbrev pub DOT : ℕ
DOT = 46

-- `+`
abbrev pub PLUS : ℕ
PLUS = 43

-- `-`
abbrev pub MINUS : ℕ
MINUS = 45

-- `0`
abbrev pub ZERO : ℕ
ZERO = 48

-- each name is the byte of its character: blanks and the newline
blanks : codes " \t\n" ≡ SPACE ∷ TAB ∷ NEWLINE ∷ []
blanks = refl

-- the backslash and quotes
quotes : codes "\\'\"`" ≡ BACKSLASH ∷ SINGLE_QUOTE ∷ DOUBLE_QUOTE ∷ BACKQUOTE ∷ []
quotes = refl

-- braces, parentheses and brackets
brackets : codes "{}()[]" ≡ OPEN_BRACE ∷ CLOSE_BRACE ∷ OPEN_PARENTHESIS ∷ CLOSE_PARENTHESIS ∷ OPEN_BRACKET ∷ CLOSE_BRACKET ∷ []
brackets = refl

-- signs
signs : codes "$#:_=|!" ≡ DOLLAR ∷ HASH ∷ COLON ∷ UNDERSCORE ∷ EQUALS ∷ BAR ∷ BANG ∷ []
signs = refl

-- signs of expressions and numbers
others : codes "*?^.+-0" ≡ STAR ∷ QUESTION ∷ CARET ∷ DOT ∷ PLUS ∷ MINUS ∷ ZERO ∷ []
others = refl
