use Rattle.std.proofs.Common.{ℕ, ◌-◌, ◌≤◌, Bool, length}
use Rattle.pm_regex.specs.Re.{Re}
use Rattle.pm_match.specs.Search.{IsProgram}
use Rattle.pm_match.specs.Checkpoints.{CountsTo}
use Rattle.pm_match.specs.Begins.{AreRuns}
use Rattle.pm_match.proofs.marks.count_window.Given as goal

abbrev pub decreases-loop-at : goal.decreases-loop-at
decreases-loop-at l = length l.area - l.at.place

abbrev pub invariant-loop-at : goal.invariant-loop-at
invariant-loop-at l = record {
  forward : AreRuns l.program.steps.items l.program.entry l.forward;
  after : l.bounds.low ≤ l.at.place;
  few : l.at.count ≤ l.at.place;
  within : l.at.place ≤ length l.area;
  counted : (e : Re) (fold : Bool) (start : ℕ) → IsProgram l.program e fold → CountsTo fold e l.area start l.fn.from.count l.fn.from.place
      → CountsTo fold e l.area start l.at.count l.at.place;
}
