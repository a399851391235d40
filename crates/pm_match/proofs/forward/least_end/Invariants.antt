use Rattle.std.proofs.Common.{ℕ, ◌-◌, ◌<◌, ◌≤◌, length}
use Rattle.pm_match.specs.Forward.{IsReachedFrom}
use Rattle.pm_match.specs.Begins.{AreRuns, IsRunNumber}
use Rattle.pm_match.proofs.forward.least_end.Given as goal

abbrev pub decreases-loop-start : goal.decreases-loop-start
decreases-loop-start l = length l.area - l.place

abbrev pub invariant-loop-start : goal.invariant-loop-start
invariant-loop-start l = record {
  after : l.start ≤ l.place;
  within : l.place ≤ length l.area;
  ready : AreRuns l.program.steps.items l.program.entry l.forward;
  number : IsRunNumber l.program.steps.items l.area l.program.entry l.start l.place l.forward.cache l.at;
  none : (j : ℕ) → j < l.place → IsReachedFrom l.program.steps.items l.area l.program.entry l.start l.program.exit j → ⊥;
}
