-- Which programs are answered by their own code.
use Rattle.std.specs.Prelude.{ℕ, List, Option, None, map, if◌then◌else◌}
use Rattle.pm_host.specs.declared.command.Command.{Command}
use Rattle.pm_overlay.specs.Tools.{tool_of, is_answered}
use Rattle.pm_overlay.specs.declared.programs.Given.{Given}
use Rattle.pm_overlay.specs.declared.tool.Tool.{Tool}

-- which code answers a command, where the commands of these lines have other answers
abbrev pub code_for : List (List ℕ) → Command → Option Tool
code_for lines command = if is_answered lines command then None else tool_of command.program

-- the lines of some answers
abbrev pub lines_of : List Given → List (List ℕ)
lines_of given = map (λ one. one.line) given
