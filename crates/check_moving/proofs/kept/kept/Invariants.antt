use Rattle.std.proofs.Common.{◌≡◌, ◌++◌, length}
use Rattle.check_moving.specs.Kept.{kept}
use Rattle.check_moving.proofs.kept.kept.Given as goal

abbrev pub invariant-loop-one : goal.invariant-loop-one
invariant-loop-one l = l.forms.items ++ kept l.rest ≡ kept l.initial.reasons

abbrev pub decreases-loop-one : goal.decreases-loop-one
decreases-loop-one l = length l.rest
