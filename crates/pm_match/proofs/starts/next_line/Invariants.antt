use Rattle.std.proofs.Common.{ℕ, ◌-◌, ◌<◌, ◌≤◌, length}
use Rattle.pm_match.specs.Starts.{Excluded}
use Rattle.pm_match.proofs.starts.next_line.Given as goal

abbrev pub invariant-loop-place : goal.invariant-loop-place
invariant-loop-place l = record {
  after : l.from ≤ l.place;
  within : l.place ≤ length l.area;
  excluded : (i : ℕ) → l.from ≤ i → i < l.place → Excluded l.starts l.area i;
}

abbrev pub decreases-loop-place : goal.decreases-loop-place
decreases-loop-place l = length l.area - l.place
