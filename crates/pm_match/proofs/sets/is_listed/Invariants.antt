use Rattle.std.proofs.Common.{◌≡◌, ℕ, ◌+◌, ◌-◌, ◌<◌, Some, length}
use Rattle.std.specs.Prelude.{slice_get}
use Rattle.pm_match.proofs.sets.is_listed.Given as goal

abbrev pub invariant-loop-index : goal.invariant-loop-index
invariant-loop-index l = (k q : ℕ) → k < l.index → slice_get l.states.items k ≡ Some q → slice_get l.all.items (l.span.start + k) ≡ Some q

abbrev pub decreases-loop-index : goal.decreases-loop-index
decreases-loop-index l = length l.states.items - l.index
