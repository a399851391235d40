-- The reader of words: which quotes are open. Outside single quotes a backslash takes the next byte along, a
-- newline too, so that two lines are joined.
use Rattle.std.specs.Prelude.{ℕ, if◌then◌else◌, nat_eq, Bool, false, true}
use Rattle.pm_bytes.specs.Letter.{is_space_byte}
use Rattle.pm_bytes.specs.Alphabet.{SINGLE_QUOTE, DOUBLE_QUOTE, BACKQUOTE, BACKSLASH}
use Rattle.pm_recipe.specs.Places.{Places}
use Rattle.pm_recipe.specs.declared.words.InWord.{InWord}
use Rattle.pm_recipe.specs.declared.words.InWord.TheVariants.{Plain, Escaped, Single, Double, DoubleEscaped, Backquote, BackquoteEscaped, Inner, InnerEscaped}

-- outside quotes a blank or a newline ends a word
abbrev pub word_ends : InWord → ℕ → Bool
word_ends Plain byte = is_space_byte byte
word_ends _ byte = false

-- what a byte of a word opens, and what it closes
abbrev pub word_after : InWord → ℕ → InWord
word_after Plain byte =
    if nat_eq byte BACKSLASH then Escaped else if nat_eq byte SINGLE_QUOTE then Single else
    if nat_eq byte DOUBLE_QUOTE then Double else if nat_eq byte BACKQUOTE then Backquote else Plain
word_after Escaped byte = Plain
word_after Single byte = if nat_eq byte SINGLE_QUOTE then Plain else Single
word_after Double byte =
    if nat_eq byte BACKSLASH then DoubleEscaped else if nat_eq byte DOUBLE_QUOTE then Plain else if nat_eq byte BACKQUOTE then Inner else Double
word_after DoubleEscaped byte = Double
word_after Backquote byte = if nat_eq byte BACKSLASH then BackquoteEscaped else if nat_eq byte BACKQUOTE then Plain else Backquote
word_after BackquoteEscaped byte = Backquote
word_after Inner byte = if nat_eq byte BACKSLASH then InnerEscaped else if nat_eq byte BACKQUOTE then Double else Inner
word_after InnerEscaped byte = Inner

-- in a word
abbrev pub word_places : Places InWord
word_places = record { joins = λ place. false; ends = word_ends; after = word_after }

-- whether a quote is open
abbrev pub is_quote : InWord → Bool
is_quote Plain = false
is_quote Escaped = false
is_quote _ = true
