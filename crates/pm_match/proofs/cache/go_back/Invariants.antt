use Rattle.std.proofs.Common.{false, ◌≤◌}
use Rattle.pm_match.specs.Cache.{AreReady, IsNumberOf}
use Rattle.pm_match.proofs.cache.go_back.Given as goal

abbrev pub decreases-loop-place : goal.decreases-loop-place
decreases-loop-place l = l.place

abbrev pub invariant-loop-place : goal.invariant-loop-place
invariant-loop-place l = record {
  above : l.bounds.low ≤ l.place;
  below : l.place ≤ l.bounds.high;
  ready : AreReady false l.program.steps.items l.program.exit l.cache;
  at : IsNumberOf l.program.steps.items l.area l.program.exit l.place l.cache l.at;
}
