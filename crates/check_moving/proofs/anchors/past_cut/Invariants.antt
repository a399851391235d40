use Rattle.std.proofs.Common.{◌≡◌, length}
use Rattle.check_moving.specs.Anchors.{after_cut}
use Rattle.check_moving.proofs.anchors.past_cut.Given as goal

abbrev pub invariant-loop-after : goal.invariant-loop-after
invariant-loop-after l = after_cut l.rest ≡ after_cut l.initial.text

abbrev pub decreases-loop-after : goal.decreases-loop-after
decreases-loop-after l = length l.rest
