-- The options of a call of formail, as formail 3.22 reads them (formail(1)).
use Rattle.std.specs.Prelude.{ℕ, Bool, false, not, ◌||◌, ◌&&◌, List, [], ◌∷◌, ◌++◌, drop, nat_eq, if◌then◌else◌, codes}
use Rattle.std.specs.List.{ends_with, list_any}
use Rattle.pm_bytes.specs.Alphabet.{MINUS}
use Rattle.pm_bytes.specs.Letter.{is_digit_byte}
use Rattle.check_moving.specs.Words.{is_break}
use Rattle.check_moving.specs.declared.options.Given.{Given}

-- an option's letter and its argument, with quotes; none where it has none or in the next word
abbrev pub given : ℕ → List ℕ → Given
given letter argument = record { letter = letter; argument = argument }

-- the letters `aAiIuUxXplRDs` take an argument
abbrev pub takes_word : ℕ → Bool
takes_word letter =
    nat_eq letter 97 || nat_eq letter 65 || nat_eq letter 105 || nat_eq letter 73 || nat_eq letter 117 || nat_eq letter 85
    || nat_eq letter 120 || nat_eq letter 88 || nat_eq letter 112 || nat_eq letter 108 || nat_eq letter 82 || nat_eq letter 68
    || nat_eq letter 115

-- the options of a group of letters
abbrev pub letters_of : List ℕ → List Given
letters_of [] = []
letters_of (letter ∷ rest) = if takes_word letter then given letter rest ∷ [] else given letter [] ∷ letters_of rest

-- what the word after an argument is: the cache (`C`) after the length of `D`, the new name (`N`) after the old one of `R`,
-- a word of the program after `s`, and nothing (0) after others
abbrev pub wanted_next : ℕ → ℕ
wanted_next letter =
    if nat_eq letter 68 then 67
    else if nat_eq letter 82 then 78
    else if nat_eq letter 115 then 115
    else 0

-- after a letter that takes an argument, and the rest of its group
abbrev pub wanted_with : ℕ → List ℕ → ℕ
wanted_with letter [] = letter
wanted_with letter (byte ∷ rest) = wanted_next letter

-- what the word after a group is
abbrev pub wanted_of : List ℕ → ℕ
wanted_of [] = 0
wanted_of (letter ∷ rest) = if takes_word letter then wanted_with letter rest else wanted_of rest

-- a minus, and no digit after it
abbrev pub is_group : List ℕ → Bool
is_group (sign ∷ (letter ∷ rest)) = nat_eq sign MINUS && not (is_digit_byte letter)
is_group _ = false

-- the letters of a word
abbrev pub group_of : List ℕ → List ℕ
group_of word = if is_group word then drop 1 word else []

-- the options of the words up to the end of the command, where the first is the argument of a letter, or of none
abbrev pub given_from : ℕ → List (List ℕ) → List Given
given_from wanted [] = []
given_from wanted (word ∷ words) =
    if is_break word then []
    else if nat_eq wanted 0 then letters_of (group_of word) ++ given_from (wanted_of (group_of word)) words
    else given wanted word ∷ given_from (wanted_next wanted) words

-- a letter among them
abbrev pub has : ℕ → List Given → Bool
has letter options = list_any (λ one. nat_eq one.letter letter) options

-- what follows the command
abbrev pub after_call : List (List ℕ) → List (List ℕ)
after_call [] = []
after_call (word ∷ words) = if is_break word then word ∷ words else after_call words

-- a word that names formail, or a variable that does
abbrev pub is_formail : List ℕ → Bool
is_formail word =
    ends_with nat_eq word (codes "formail") || ends_with nat_eq word (codes "FORMAIL") || ends_with nat_eq word (codes "FORMAIL}")
    || ends_with nat_eq word (codes "FORMAIL\"")
