-- What the words of the command line ask for (procmail(1)).
use Rattle.std.specs.Prelude.{ℕ, Bool, true, false, ◌&&◌, ◌||◌, ◌==◌, not, nat_le, List, [], ◌∷◌, ◌++◌, drop, map, Option, Some, None, option_and_then, String, string_bytes, codes, nat_eq, bytes_eq, if◌then◌else◌}
use Rattle.std.specs.List.{starts_with, list_any, list_all, before_first, after_first}
use Rattle.std.specs.declared.alloc.Global.{Global}
use Rattle.pm_bytes.specs.Name.{has_zero}
use Rattle.pm_bytes.specs.Letter.{is_name_start, is_name_byte}
use Rattle.pm_bytes.specs.declared.environment.Pair.{Pair}
use Rattle.pm_message.specs.declared.renewal.Renew.{Renew}
use Rattle.pm_message.specs.declared.renewal.Renew.TheVariants.{Keep, AddMissing, Sender, Date}
use Rattle.pm_meaning.specs.declared.command_line.CommandLine.{CommandLine}
use Rattle.pm_top.specs.declared.place.Next.{Next}
use Rattle.pm_top.specs.declared.place.Next.TheVariants.{Any, Operand, ArgumentText, SenderText}

-- no word was read yet
abbrev pub no_words : CommandLine
no_words = record { filter = false; fails_softly = false; renew = AddMissing; arguments = []; values = []; rcfiles = [] }

-- what the words so far ask for, and what the next word is
pub record Said : Type 0 where
  pub line : CommandLine
  pub next : Next

-- the byte is this letter
abbrev pub is : ℕ → List ℕ → Bool
is letter text = bytes_eq (letter ∷ []) text

-- a letter that stands alone; `Y` and `o` change nothing
abbrev pub with_letter : ℕ → CommandLine → Option CommandLine
with_letter letter line =
    if is letter (codes "t") then Some (record line { fails_softly = true })
    else if is letter (codes "m") then Some (record line { filter = true })
    else if is letter (codes "Y") || is letter (codes "o") then Some line
    else None

-- a letter that takes a text: `f`, also written `r`, and `a`
abbrev pub awaited : ℕ → Option Next
awaited letter =
    if is letter (codes "f") || is letter (codes "r") then Some SenderText
    else if is letter (codes "a") then Some ArgumentText
    else None

-- a sender has at least one byte, and none below 33, which follows the blank
abbrev pub is_sender : List ℕ → Bool
is_sender text = not (bytes_eq text []) && list_all (λ byte. nat_le 33 byte) text

-- `-f -` asks for a new date alone
abbrev pub renewal : List ℕ → Renew
renewal text = if bytes_eq text (codes "-") then Date else Sender text

-- the line with one argument, sender, variable or rcfile more
abbrev pub with_argument : List ℕ → CommandLine → CommandLine
with_argument text line = record line { arguments = line.arguments ++ text ∷ [] }

-- with a renewed line `From `, of this sender
abbrev pub with_sender : List ℕ → CommandLine → CommandLine
with_sender text line = record line { renew = renewal text }

-- an equals sign
abbrev pub is_equals : ℕ → Bool
is_equals byte = byte == 61

-- the name and the value of a word with an equals sign
abbrev pub variable_of : List ℕ → Pair
variable_of word = record { name = before_first is_equals word; value = after_first is_equals word }

-- with one more variable
abbrev pub with_variable : List ℕ → CommandLine → CommandLine
with_variable word line = record line { values = line.values ++ variable_of word ∷ [] }

-- with one more rcfile
abbrev pub with_rcfile : List ℕ → CommandLine → CommandLine
with_rcfile word line = record line { rcfiles = line.rcfiles ++ word ∷ [] }

-- the line, and what the next word is, where this holds
abbrev pub said_if : Bool → Next → CommandLine → Option Said
said_if holds next line = if holds then Some (record { line = line; next = next }) else None

-- the text of a letter
abbrev pub text_word : Next → List ℕ → CommandLine → Option Said
text_word SenderText text line = said_if (is_sender text) Any (with_sender text line)
text_word ArgumentText text line = said_if (not (has_zero text)) Any (with_argument text line)
text_word other text line = None

-- the text of a letter is what is left of its group, or the next word where nothing is left
abbrev pub rest_or_next : Next → List ℕ → CommandLine → Option Said
rest_or_next awaited [] line = Some (record { line = line; next = awaited })
rest_or_next awaited (byte ∷ rest) line = text_word awaited (byte ∷ rest) line

-- a letter of a group, where it awaits a text or stands alone, and those after it
abbrev pub by_letter : Option Next → List ℕ → CommandLine → Option CommandLine → (CommandLine → Option Said) → Option Said
by_letter (Some awaited) rest line alone behind = rest_or_next awaited rest line
by_letter None rest line alone behind = option_and_then behind alone

-- a group of letters, one after the other
abbrev pub letters : List ℕ → CommandLine → Option Said
letters [] line = Some (record { line = line; next = Any })
letters (letter ∷ rest) line = by_letter (awaited letter) rest line (with_letter letter line) (λ now. letters rest now)

-- a word of options: `-` and more
abbrev pub is_options : List ℕ → Bool
is_options word = starts_with nat_eq word (codes "-") && not (bytes_eq word (codes "-"))

-- the name of a variable: a letter or `_`, and then letters, digits and `_`
abbrev pub is_variable : List ℕ → Bool
is_variable [] = false
is_variable (byte ∷ name) = is_name_start byte && list_all is_name_byte name

-- some rcfile was named
abbrev pub has_some : List (List ℕ) → Bool
has_some [] = false
has_some (rcfile ∷ rcfiles) = true

-- the rcfile of a mail filter was named: all words after it are its arguments
abbrev pub is_after : CommandLine → Bool
is_after line = line.filter && has_some line.rcfiles

-- A word that is no option. What stands after the rcfile of a mail filter is kept after it until the end, as it is.
abbrev pub operand : Next → List ℕ → CommandLine → Option Said
operand next word line =
    if has_zero word then None
    else if is_after line then said_if true next (with_rcfile word line)
    else if list_any is_equals word then said_if (is_variable (before_first is_equals word)) next (with_variable word line)
    else said_if (not (bytes_eq word [])) next (with_rcfile word line)

-- a word, by what it is
abbrev pub read_word : Next → List ℕ → CommandLine → Option Said
read_word Any word line =
    if is_after line then operand Any word line
    else if bytes_eq word (codes "--") then Some (record { line = line; next = Operand })
    else if is_options word then letters (drop 1 word) line
    else operand Any word line
read_word Operand word line = operand Operand word line
read_word text word line = text_word text word line

-- a mail filter without `-f` takes the mail as it is
abbrev pub kept : Renew → Renew
kept AddMissing = Keep
kept other = other

-- A mail filter has one rcfile, and what was kept after it are its arguments, after those of `-a`. So where `-m` comes after
-- rcfiles, the first is the filter's, and the others are arguments, as are all words after that `-m`.
abbrev pub filter_line : List (List ℕ) → CommandLine → Option CommandLine
filter_line [] line = None
filter_line (rcfile ∷ behind) line =
    Some (record line { renew = kept line.renew; arguments = line.arguments ++ behind; rcfiles = rcfile ∷ [] })

-- the end of the words, where no letter awaits its text
abbrev pub finished : CommandLine → Option CommandLine
finished line = if line.filter then filter_line line.rcfiles line else Some line

-- the end of the words; a letter that awaits its text is an error
abbrev pub closed : Next → CommandLine → Option CommandLine
closed Any line = finished line
closed Operand line = finished line
closed text line = None

-- what the words ask for from here on, one after the other
abbrev pub asked : Next → CommandLine → List (List ℕ) → Option CommandLine
asked next line [] = closed next line
asked next line (word ∷ words) = option_and_then (λ said. asked said.next said.line words) (read_word next word line)

-- the words as bytes
abbrev pub all_bytes : List (String Global) → List (List ℕ)
all_bytes words = map (λ word. string_bytes word) words

-- what the words ask for, where they are read
abbrev pub command_line : List (String Global) → Option CommandLine
command_line words = asked Any no_words (all_bytes words)
