use Rattle.std.proofs.Common.{◌≡◌, ◌++◌, length}
use Rattle.check_moving.specs.Names.{others}
use Rattle.check_moving.proofs.names.others.Given as goal

abbrev pub invariant-loop-other : goal.invariant-loop-other
invariant-loop-other l = l.left.items ++ others l.name l.rest ≡ others l.name l.initial.names

abbrev pub decreases-loop-other : goal.decreases-loop-other
decreases-loop-other l = length l.rest
