-- The words of a program's line, with their quotes, and the bytes that end a command.
use Rattle.std.specs.Prelude.{ℕ, Bool, false, ◌||◌, List, [], ◌∷◌, ◌++◌, nat_eq, if◌then◌else◌}
use Rattle.pm_bytes.specs.Alphabet.{BACKQUOTE, BAR, NEWLINE}
use Rattle.pm_bytes.specs.Letter.{is_blank_byte}
use Rattle.check_moving.specs.Quotes.{quote_after}
use Rattle.check_moving.specs.declared.quotes.Quote.{Quote}
use Rattle.check_moving.specs.declared.quotes.Quote.TheVariants.{Plain, Double}

-- `|`, `;`, `&`, `(`, `)`, `<`, `>`, a backquote or a newline
abbrev pub is_break_byte : ℕ → Bool
is_break_byte byte =
    nat_eq byte BAR || nat_eq byte 59 || nat_eq byte 38 || nat_eq byte 40 || nat_eq byte 41 || nat_eq byte 60 || nat_eq byte 62
    || nat_eq byte BACKQUOTE || nat_eq byte NEWLINE

-- a backquote ends a word in double quotes, too
abbrev pub ends_word : Quote → ℕ → Bool
ends_word Plain byte = is_blank_byte byte || is_break_byte byte
ends_word Double byte = nat_eq byte BACKQUOTE
ends_word _ byte = false

-- a word, unless it is empty, before others
abbrev pub with_word : List ℕ → List (List ℕ) → List (List ℕ)
with_word [] words = words
with_word (byte ∷ bytes) words = (byte ∷ bytes) ∷ words

-- a byte that ends a command is a word of its own
abbrev pub with_break : ℕ → List (List ℕ) → List (List ℕ)
with_break byte words = if is_break_byte byte then (byte ∷ []) ∷ words else words

-- the words of what follows a part of a word
abbrev pub words_from : Quote → List ℕ → List ℕ → List (List ℕ)
words_from quote word [] = with_word word []
words_from quote word (byte ∷ rest) =
    if ends_word quote byte then with_word word (with_break byte (words_from Plain [] rest))
    else words_from (quote_after quote byte) (word ++ (byte ∷ [])) rest

-- the words of a line
abbrev pub words_of : List ℕ → List (List ℕ)
words_of text = words_from Plain [] text

-- a byte that ends a command
abbrev pub is_break : List ℕ → Bool
is_break (byte ∷ []) = is_break_byte byte
is_break _ = false
