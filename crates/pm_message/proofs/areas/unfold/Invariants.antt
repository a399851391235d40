use Rattle.std.proofs.Common.{◌≡◌, ◌++◌, length}
use Rattle.pm_message.specs.Area.{unfolded}
use Rattle.pm_message.proofs.areas.unfold.Given as goal

abbrev pub invariant-loop-line : goal.invariant-loop-line
invariant-loop-line l = l.text ++ unfolded l.rest ≡ unfolded l.fn.bytes

abbrev pub decreases-loop-line : goal.decreases-loop-line
decreases-loop-line l = length l.rest
