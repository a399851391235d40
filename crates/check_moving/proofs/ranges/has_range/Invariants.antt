use Rattle.std.proofs.Common.{◌≡◌, length}
use Rattle.check_moving.specs.Ranges.{has_range}
use Rattle.check_moving.proofs.ranges.has_range.Given as goal

abbrev pub invariant-loop-first : goal.invariant-loop-first
invariant-loop-first l = has_range l.rest ≡ has_range l.initial.members

abbrev pub decreases-loop-first : goal.decreases-loop-first
decreases-loop-first l = length l.rest
