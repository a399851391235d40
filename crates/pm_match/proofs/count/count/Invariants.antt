use Rattle.std.proofs.Common.{◌-◌, ◌≤◌, Bool, length}
use Rattle.pm_regex.specs.Re.{Re, nothing}
use Rattle.pm_match.specs.Search.{Runs}
use Rattle.pm_match.specs.Checkpoints.{CountsTo}
use Rattle.pm_match.proofs.count.count.Given as goal

abbrev pub decreases-loop-at : goal.decreases-loop-at
decreases-loop-at l = length l.area - l.at.place

abbrev pub invariant-loop-at : goal.invariant-loop-at
invariant-loop-at l = record {
  kept : (e r : Re) (fold : Bool) → Runs l.initial.search e r fold → Runs l.search e r fold;
  few : l.at.count ≤ l.at.place;
  within : l.at.place ≤ length l.area;
  counted : (e : Re) (fold : Bool) → Runs l.initial.search e nothing fold → CountsTo fold e l.area 0 l.at.count l.at.place;
}
