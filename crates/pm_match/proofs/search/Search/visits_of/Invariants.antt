use Rattle.std.proofs.Common.{Bool}
use Rattle.pm_regex.specs.Re.{Re}
use Rattle.pm_match.specs.Search.{Runs}
use Rattle.pm_match.proofs.search.Search.visits_of.Given as goal

abbrev pub invariant-loop-number : goal.invariant-loop-number
invariant-loop-number l = (x y : Re) (fold : Bool) → Runs l.fn.self x y fold → Runs l.self x y fold
