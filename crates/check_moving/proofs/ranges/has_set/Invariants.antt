use Rattle.std.proofs.Common.{◌≡◌, false, length}
use Rattle.check_moving.specs.Ranges.{has_set}
use Rattle.check_moving.proofs.ranges.has_set.Given as goal

abbrev pub invariant-loop-byte : goal.invariant-loop-byte
invariant-loop-byte l = has_set l.escaped l.rest ≡ has_set false l.initial.text

abbrev pub decreases-loop-byte : goal.decreases-loop-byte
decreases-loop-byte l = length l.rest
