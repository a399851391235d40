-- The programs of a journal, by their places among them: the first has the place 0.
use Rattle.std.specs.Prelude.{ℕ, ◌+◌, ◌&&◌, Bool, true, false, not, nat_eq, bytes_eq, List, [], ◌∷◌, Option, Some, None, if◌then◌else◌}
use Rattle.pm_host.specs.declared.command.Command.{Command}
use Rattle.pm_journal.specs.declared.acts.Act.{Act}
use Rattle.pm_journal.specs.declared.acts.Act.TheVariants.{Run}
use Rattle.pm_journal.specs.declared.acts.Entry.{Entry}
use Rattle.pm_overlay.specs.Given.{line_of}

-- the act runs a program
abbrev pub is_program : Act → Bool
is_program (Run command input want) = true
is_program other = false

-- the program at a place, where so many come before these entries
abbrev pub program_from : ℕ → ℕ → List Entry → Option Entry
program_from place before [] = None
program_from place before (entry ∷ entries) =
    if is_program entry.act then (if nat_eq before place then Some entry else program_from place (before + 1) entries)
    else program_from place before entries

-- the program at a place of a journal
abbrev pub program_at : List Entry → ℕ → Option Entry
program_at entries place = program_from place 0 entries

-- both or neither
abbrev pub alike : Bool → Bool → Bool
alike true other = other
alike false other = not other

-- commands of one line, run from one directory
abbrev pub are_alike : Command → Command → Bool
are_alike one other = bytes_eq (line_of one) (line_of other) && bytes_eq one.folder other.folder

-- the act runs this program, and its output is wanted or not as it is here
abbrev pub runs : Command → Bool → Act → Bool
runs command want (Run other input wanted) = alike want wanted && are_alike command other
runs command want other = false
