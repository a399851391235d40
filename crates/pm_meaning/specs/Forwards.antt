-- How mail is forwarded: the program and its words.
use Rattle.std.specs.Prelude.{ℕ, ◌-◌, ◌^◌, not, min, nat_lt, List, [], ◌∷◌, ◌++◌, filter, codes, if◌then◌else◌}
use Rattle.pm_bytes.specs.Letter.{is_blank_byte}
use Rattle.pm_vars.specs.Table.{Table}
use Rattle.pm_subst.specs.Commands.{commands_in}
use Rattle.pm_subst.specs.Words.{words_in, size_in}
use Rattle.pm_subst.specs.declared.kinds.Mode.TheVariants.{Many}
use Rattle.pm_meaning.specs.Locks.{value_or}
use Rattle.pm_meaning.specs.Minds.{Mind}
use Rattle.pm_meaning.specs.Programs.{Reading, line_of_words}
use Rattle.pm_meaning.specs.Texts.{is_empty}
use Rattle.pm_meaning.specs.declared.process.ProgramLine.{ProgramLine}
use Rattle.pm_meaning.specs.declared.process.ProgramLine.TheVariants.{NoWords, TooLong}

-- a byte in front of the first of these texts
abbrev pub onto_first : ℕ → List (List ℕ) → List (List ℕ)
onto_first byte [] = (byte ∷ []) ∷ []
onto_first byte (text ∷ texts) = (byte ∷ text) ∷ texts

-- what stands before, between and after the blanks of a text
abbrev pub between_blanks : List ℕ → List (List ℕ)
between_blanks [] = [] ∷ []
between_blanks (byte ∷ bytes) = if is_blank_byte byte then [] ∷ between_blanks bytes else onto_first byte (between_blanks bytes)

-- the words that blanks part; quotes mean nothing
abbrev pub blank_words : List ℕ → List (List ℕ)
blank_words text = filter (λ word. not (is_empty word)) (between_blanks text)

-- SENDMAIL with the words of SENDMAILFLAGS
abbrev pub sendmail_words : Table → List (List ℕ)
sendmail_words vars =
    value_or (codes "/usr/sbin/sendmail") (codes "SENDMAIL") vars ∷ blank_words (value_or [] (codes "SENDMAILFLAGS") vars)

-- the addresses are its last words, and there is one at least
abbrev pub addressed : List (List ℕ) → Mind → ProgramLine
addressed [] p = NoWords
addressed (word ∷ words) p = line_of_words (sendmail_words p.vars ++ word ∷ words) p

-- the addresses of a text, expanded with these outputs of its commands
abbrev pub forward_line : List (List ℕ) → List ℕ → Mind → ProgramLine
forward_line outputs text p =
    if nat_lt 1048576 (size_in Many p.vars outputs text) then TooLong (min (size_in Many p.vars outputs text) (2 ^ 64 - 1))
    else addressed (words_in Many p.vars outputs text) p

-- no shell reads the addresses
abbrev pub forward_reading : List ℕ → Reading
forward_reading text = record { commands = commands_in Many text; read = λ outputs p. forward_line outputs text p }
