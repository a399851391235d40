-- What the code's answers stand for.
use Rattle.std.specs.Prelude.{◌≡◌, ℕ, ◌+◌, ◌-◌, Option, Some, None, [], length}
use Rattle.core.specs.declared.ops.ControlFlow.{ControlFlow}
use Rattle.core.specs.declared.ops.ControlFlow.TheVariants.{Continue, Break}
use Rattle.pm_code.specs.Flat.{flats_of, written}
use Rattle.pm_code.specs.declared.code.Code.{Code}
use Rattle.pm_recipe.specs.Tree.{Trees}
use Rattle.pm_meaning.specs.Minds.{Mind}
use Rattle.pm_meaning.specs.declared.process.End.{End}
use Rattle.pm_meaning.specs.Running.{State, Running, Over, OpeningRule}
use Rattle.pm_code.specs.Ahead.{lists_of}
use Rattle.pm_run.specs.Frames.{weave}
use Rattle.pm_run.specs.declared.queue.Queue.{Queue}
use Rattle.pm_run.specs.declared.opening.Rule.{Rule}

-- where a process stands after its statements: without an end nothing is left
abbrev pub stands_at : Option End → Mind → State
stands_at None p = Running [] p
stands_at (Some end) p = Over end p

-- where it stands once an rcfile of the command line was read, or none was, or it has ended
abbrev pub opened_at : ControlFlow End (Option Code) → Mind → State
opened_at (Continue (Some code)) p = Running (weave (lists_of (flats_of code.steps.items)) [] []) p
opened_at (Continue None) p = Running [] p
opened_at (Break end) p = Over end p

-- how the rcfiles of the command line are opened
abbrev pub rule_of_opening : Rule → OpeningRule
rule_of_opening rule = record { is_implied = rule.is_implied; keeps_folder = rule.keeps_folder }

-- the code is that of these statements
abbrev pub IsCode : Code → Trees → Type 0
IsCode code trees = flats_of code.steps.items ≡ written 0 trees

-- how many copies wait and may still be made
abbrev pub copies_left : Queue → ℕ
copies_left queue = length queue.copies.items + (16 - queue.made)
