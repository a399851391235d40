use Rattle.std.proofs.Common.{◌≡◌, length}
use Rattle.check_moving.specs.Text.{has_part}
use Rattle.check_fix.proofs.parts.has_part.Given as goal

abbrev pub invariant-loop-after : goal.invariant-loop-after
invariant-loop-after l = has_part l.part l.rest ≡ has_part l.part l.initial.text

abbrev pub decreases-loop-after : goal.decreases-loop-after
decreases-loop-after l = length l.rest
