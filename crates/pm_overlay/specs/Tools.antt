-- Which programs of a run are answered without being started.
use Rattle.std.specs.Prelude.{ℕ, Bool, ◌||◌, ◌∷◌, codes, List, Option, Some, None, is_some, bytes_eq, nat_eq, if◌then◌else◌}
use Rattle.std.specs.List.{ends_with, list_any}
use Rattle.pm_host.specs.declared.command.Command.{Command}
use Rattle.pm_overlay.specs.Given.{line_of}
use Rattle.pm_overlay.specs.declared.tool.Tool.{Tool}
use Rattle.pm_overlay.specs.declared.tool.Tool.TheVariants.{Formail, Lockfile}

-- it is the name itself, or a path whose last part is the name
abbrev pub is_named : List ℕ → List ℕ → Bool
is_named name program = bytes_eq program name || ends_with nat_eq program (47 ∷ name)

-- the one of this name
abbrev pub tool_of : List ℕ → Option Tool
tool_of program =
    if is_named (codes "formail") program then Some Formail
    else if is_named (codes "lockfile") program then Some Lockfile
    else None

-- one of these lines is the command's
abbrev pub is_answered : List (List ℕ) → Command → Bool
is_answered lines command = list_any (λ line. bytes_eq line (line_of command)) lines

-- a command has an answer: a given one, by these lines, or that of its own code
abbrev pub has_answer : List (List ℕ) → Command → Bool
has_answer lines command = is_answered lines command || is_some (tool_of command.program)
