-- How a program line is read, and what the run of a program leaves in `$?`.
use Rattle.std.specs.Prelude.{ℕ, ◌-◌, ◌^◌, ◌==◌, Bool, min, nat_lt, List, [], ◌∷◌, map, filter, codes, if◌then◌else◌}
use Rattle.std.specs.List.{list_all, list_any}
use Rattle.pm_bytes.specs.Alphabet.{BACKQUOTE}
use Rattle.pm_bytes.specs.Name.{is_usable}
use Rattle.pm_bytes.specs.declared.environment.Pair.{Pair}
use Rattle.pm_host.specs.declared.command.Command.{Command}
use Rattle.pm_vars.specs.Table.{Table}
use Rattle.pm_vars.specs.Variables.{Variable, is_exported}
use Rattle.pm_subst.specs.Commands.{commands_in}
use Rattle.pm_subst.specs.Words.{words_in, size_in}
use Rattle.pm_subst.specs.declared.kinds.Mode.TheVariants.{Many}
use Rattle.pm_journal.specs.Outcomes.{run_end}
use Rattle.pm_journal.specs.declared.acts.Reply.{Reply}
use Rattle.pm_journal.specs.declared.children.RunEnd.{RunEnd}
use Rattle.pm_journal.specs.declared.children.RunEnd.TheVariants.{Ended}
use Rattle.pm_meaning.specs.Locks.{value_or}
use Rattle.pm_meaning.specs.Minds.{Mind}
use Rattle.pm_meaning.specs.declared.process.ProgramLine.{ProgramLine}
use Rattle.pm_meaning.specs.declared.process.ProgramLine.TheVariants.{Runs, NoWords, Unusable, TooLong}

-- a variable as a program gets it
abbrev pub pair_of : Variable → Pair
pair_of v = record { name = v.name; value = v.value }

-- the environment of a program: the variables that programs get
abbrev pub environment : Table → List Pair
environment vars = map pair_of (filter is_exported vars.variables)

-- this program with these words, run from the folder from which names are seen
abbrev pub command_of : List ℕ → List (List ℕ) → Mind → Command
command_of program words p = record { program = program; args = words; env = environment p.vars; folder = p.base }

-- the first word is the program; each must be one that a program can get
abbrev pub line_of_words : List (List ℕ) → Mind → ProgramLine
line_of_words [] p = NoWords
line_of_words (program ∷ words) p = if list_all is_usable (program ∷ words) then Runs (command_of program words p) else Unusable

-- the shell runs the line: SHELL with SHELLFLAGS and the line as its two words
abbrev pub shell_words : List ℕ → Table → List (List ℕ)
shell_words line vars = value_or (codes "/bin/sh") (codes "SHELL") vars ∷ value_or (codes "-c") (codes "SHELLFLAGS") vars ∷ line ∷ []

-- the text has a byte of this list
abbrev pub has_one_of : List ℕ → List ℕ → Bool
has_one_of bytes text = list_any (λ byte. list_any (λ other. other == byte) bytes) text

-- a line with a byte of SHELLMETAS is left to the shell
abbrev pub needs_shell : List ℕ → Mind → Bool
needs_shell line p = has_one_of (value_or (codes "&|<>~;?*[") (codes "SHELLMETAS") p.vars) line

-- the backquoted commands that are run before the line; the shell runs those of its lines itself
abbrev pub line_commands : List ℕ → Mind → List (List ℕ)
line_commands line p = if needs_shell line p then [] else commands_in Many line

-- a line that no shell runs, expanded with these outputs of its commands
abbrev pub expanded_line : List (List ℕ) → List ℕ → Mind → ProgramLine
expanded_line outputs line p =
    if nat_lt 1048576 (size_in Many p.vars outputs line) then TooLong (min (size_in Many p.vars outputs line) (2 ^ 64 - 1))
    else line_of_words (words_in Many p.vars outputs line) p

-- a program line, with these outputs of its commands
abbrev pub line_of : List (List ℕ) → List ℕ → Mind → ProgramLine
line_of outputs line p = if needs_shell line p then line_of_words (shell_words line p.vars) p else expanded_line outputs line p

-- How the line of a program is read: the commands that are run before it, and the line by their outputs.
pub record Reading : Type 0 where
  pub commands : List (List ℕ)
  pub read : List (List ℕ) → Mind → ProgramLine

-- the shell gets the line as it is, and runs its commands itself
abbrev pub shell_reading : List ℕ → Reading
shell_reading line = record { commands = []; read = λ outputs p. line_of_words (shell_words line p.vars) p }

-- the commands of any other line are run before it
abbrev pub plain_reading : List ℕ → Reading
plain_reading line = record { commands = commands_in Many line; read = λ outputs p. expanded_line outputs line p }

-- how a program's line is read: by a shell where it needs one
abbrev pub line_reading : List ℕ → Mind → Reading
line_reading line p = if needs_shell line p then shell_reading line else plain_reading line

-- a backquote stands in the text
abbrev pub has_backquote : List ℕ → Bool
has_backquote text = list_any (λ byte. byte == BACKQUOTE) text

-- a backquoted command; one with a backquote inside is left to the shell too
abbrev pub command_line_of : List ℕ → Mind → ProgramLine
command_line_of text p = if has_backquote text then line_of_words (shell_words text p.vars) p else line_of [] text p

-- the exit code of a program; one that didn't come to its end has 127
abbrev pub code_of : RunEnd → ℕ
code_of (Ended code took) = code
code_of other = 127

-- the program that was run last has this exit code
abbrev pub with_exit_code : ℕ → Mind → Mind
with_exit_code code p = record p { vars = record p.vars { marks = record p.vars.marks { code = code } } }

-- a program was run
abbrev pub with_code : Reply → Mind → Mind
with_code reply p = with_exit_code (code_of (run_end reply)) p
