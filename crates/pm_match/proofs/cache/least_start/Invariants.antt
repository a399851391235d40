use Rattle.std.proofs.Common.{ℕ, ◌<◌, ◌≤◌, false, length}
use Rattle.pm_match.specs.Backward.{ReachesExit}
use Rattle.pm_match.specs.Cache.{AreReady, IsNumberOf}
use Rattle.pm_match.proofs.cache.least_start.Given as goal

abbrev pub decreases-loop-place : goal.decreases-loop-place
decreases-loop-place l = l.place

abbrev pub invariant-loop-place : goal.invariant-loop-place
invariant-loop-place l = record {
  ready : AreReady false l.program.steps.items l.program.exit l.cache;
  number : IsNumberOf l.program.steps.items l.area l.program.exit l.place l.cache l.at;
  low : l.place ≤ l.least;
  within : l.least ≤ length l.area;
  none : (k : ℕ) → l.place ≤ k → k < l.least → ReachesExit l.program.steps.items l.area l.program.exit l.program.entry k → ⊥;
}
