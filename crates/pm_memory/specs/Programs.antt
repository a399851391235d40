-- What the children of a host in memory will do, and what they took.
use Rattle.std.specs.Prelude.{◌≡◌, ℕ, Bool, cond, List, [], ◌∷◌, ◌++◌, drop}
use Rattle.pm_host.specs.World.{last_fed}
use Rattle.pm_host.specs.declared.answers.Child.{Child}
use Rattle.pm_host.specs.declared.answers.Child.TheVariants.{Feeding}
use Rattle.pm_host.specs.declared.command.Command.{Command}
use Rattle.pm_host.specs.declared.command.ChildInput.{ChildInput}
use Rattle.pm_host.specs.declared.command.Script.{Script}
use Rattle.pm_memory.specs.Scripts.{next_script}
use Rattle.pm_memory.specs.declared.programs.Programs.{Programs}

-- the scripts that weren't used yet
abbrev pub children_in : Programs → List Script
children_in p = p.scripts.items

-- what the children took, the last one last
abbrev pub inputs_in : Programs → List ChildInput
inputs_in p = p.inputs.items

-- whether a child runs
abbrev pub child_in : Programs → Child
child_in p = p.child

-- what the child that was started last does
abbrev pub script_in : Programs → Script
script_in p = p.script

-- what is left of its output, where that is kept
abbrev pub left_in : Programs → List ℕ
left_in p = cond p.kept (drop p.given p.script.output) []

-- a child was started
pub record Starts (command : Command) (want : Bool) (old new : Programs) : Type 0 where
  pub children : children_in new ≡ drop 1 (children_in old)
  pub inputs : inputs_in new ≡ inputs_in old ++ record { command = command; bytes = [] } ∷ []
  pub child : child_in new ≡ Feeding
  pub script : script_in new ≡ next_script (children_in old)
  pub left : left_in new ≡ cond want (next_script (children_in old)).output []

-- the last child took these bytes too
pub record Fills (more : List ℕ) (old new : Programs) : Type 0 where
  pub children : children_in new ≡ children_in old
  pub inputs : inputs_in new ≡ last_fed (inputs_in old) more
  pub child : child_in new ≡ child_in old
  pub script : script_in new ≡ script_in old
  pub left : left_in new ≡ left_in old

-- nothing was started or taken
pub record Stays (old new : Programs) : Type 0 where
  pub children : children_in new ≡ children_in old
  pub inputs : inputs_in new ≡ inputs_in old
  pub script : script_in new ≡ script_in old
  pub left : left_in new ≡ left_in old
