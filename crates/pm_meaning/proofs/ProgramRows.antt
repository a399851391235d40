-- Program lines that are read, as examples.
use Rattle.std.proofs.Common.{◌≡◌, List, ℕ, [], ◌∷◌, refl}
use Rattle.std.specs.Prelude.{codes}
use Rattle.pm_meaning.specs.Forwards.{blank_words, forward_line}
use Rattle.pm_meaning.specs.Minds.{Mind}
use Rattle.pm_meaning.specs.Programs.{line_of_words, line_of, line_commands, command_line_of}
use Rattle.pm_meaning.specs.declared.process.ProgramLine.TheVariants.{NoWords}

-- a process with this one variable
abbrev only : List ℕ → List ℕ → Mind → Mind
only name value p = record p { vars = record p.vars { variables = record { name = name; value = value } ∷ [] } }

-- quotes keep a blank within a word
words_row : (p : Mind) → let q = only (codes "A") (codes "b c") p in
    line_of [] (codes "formail -A \"X-Seen: $A\"") q ≡ line_of_words (codes "formail" ∷ codes "-A" ∷ codes "X-Seen: b c" ∷ []) q
words_row p = refl

-- a value outside quotes is split, and so is the output of a command
split_row : (p : Mind) → let q = only (codes "A") (codes "b c") p in
    line_of (codes "d e\n\n" ∷ []) (codes "echo $A `f`") q ≡ line_of_words (codes "echo" ∷ codes "b" ∷ codes "c" ∷ codes "d" ∷ codes "e" ∷ []) q
split_row p = refl

commands_row : (p : Mind) → line_commands (codes "echo `f g`") (only (codes "A") (codes "b") p) ≡ codes "f g" ∷ []
commands_row p = refl

-- a `>` is for the shell, which gets the line as it is
shell_row : (p : Mind) → let q = only (codes "SHELL") (codes "/bin/ksh") p in
    line_of [] (codes "sort $A >>out") q ≡ line_of_words (codes "/bin/ksh" ∷ codes "-c" ∷ codes "sort $A >>out" ∷ []) q
shell_row p = refl

-- without SHELLMETAS no line is
none_row : (p : Mind) → let q = only (codes "SHELLMETAS") [] p in line_of [] (codes "echo >>out") q ≡ line_of_words (codes "echo" ∷ codes ">>out" ∷ []) q
none_row p = refl

-- a command with a command inside is
inside_row : (p : Mind) → let q = only (codes "A") (codes "b") p in
    command_line_of (codes "echo `f`") q ≡ line_of_words (codes "/bin/sh" ∷ codes "-c" ∷ codes "echo `f`" ∷ []) q
inside_row p = refl

-- an unset variable is no word, so there is no program
empty_row : (p : Mind) → line_of [] (codes "$B") (only (codes "A") (codes "b") p) ≡ NoWords
empty_row p = refl

-- blanks at the ends and one after another make no words, and quotes mean nothing
blanks_row : blank_words (codes "  -oi\t -f 'a b' ") ≡ codes "-oi" ∷ codes "-f" ∷ codes "'a" ∷ codes "b'" ∷ []
blanks_row = refl

no_blanks_row : blank_words (codes "") ≡ []
no_blanks_row = refl

-- without SENDMAILFLAGS the addresses come directly after SENDMAIL
forward_row : (p : Mind) → let q = only (codes "SENDMAIL") (codes "/bin/mail") p in
    forward_line [] (codes " a@x  b@x") q ≡ line_of_words (codes "/bin/mail" ∷ codes "a@x" ∷ codes "b@x" ∷ []) q
forward_row p = refl

flags_row : (p : Mind) → let q = only (codes "SENDMAILFLAGS") (codes "-oi -t") p in
    forward_line [] (codes " a@x") q ≡ line_of_words (codes "/usr/sbin/sendmail" ∷ codes "-oi" ∷ codes "-t" ∷ codes "a@x" ∷ []) q
flags_row p = refl

-- an address is wanted
no_address_row : (p : Mind) → forward_line [] (codes " $B") (only (codes "A") (codes "b") p) ≡ NoWords
no_address_row p = refl
