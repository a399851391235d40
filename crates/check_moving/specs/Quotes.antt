-- What a byte of a value or of a program line stands in.
use Rattle.std.specs.Prelude.{ℕ, Bool, true, false, nat_eq, if◌then◌else◌}
use Rattle.pm_bytes.specs.Alphabet.{SINGLE_QUOTE, DOUBLE_QUOTE, BACKQUOTE, BACKSLASH}
use Rattle.check_moving.specs.declared.quotes.Quote.{Quote}
use Rattle.check_moving.specs.declared.quotes.Quote.TheVariants.{Plain, Single, Double, Back, Escaped, DoubleEscaped}

-- outside of quotes
abbrev pub plain_after : ℕ → Quote
plain_after byte =
    if nat_eq byte SINGLE_QUOTE then Single
    else if nat_eq byte DOUBLE_QUOTE then Double
    else if nat_eq byte BACKQUOTE then Back
    else if nat_eq byte BACKSLASH then Escaped
    else Plain

-- what the next byte stands in
abbrev pub quote_after : Quote → ℕ → Quote
quote_after Plain byte = plain_after byte
quote_after Single byte = if nat_eq byte SINGLE_QUOTE then Plain else Single
quote_after Double byte =
    if nat_eq byte DOUBLE_QUOTE then Plain
    else if nat_eq byte BACKQUOTE then Back
    else if nat_eq byte BACKSLASH then DoubleEscaped
    else Double
quote_after Back byte = if nat_eq byte BACKQUOTE then Plain else Back
quote_after Escaped byte = Plain
quote_after DoubleEscaped byte = Double

-- variables are expanded outside of quotes and in double ones
abbrev pub expands_in : Quote → Bool
expands_in Plain = true
expands_in Double = true
expands_in _ = false

-- a blank ends a word outside of quotes
abbrev pub is_plain : Quote → Bool
is_plain Plain = true
is_plain _ = false
