use Rattle.std.proofs.Common.{◌≡◌, false, ℕ, ◌+◌, ◌<◌, ◌≤◌, ◌↔◌, vec_len}
use Rattle.pm_match.specs.Backward.{Holds, ReachesExit}
use Rattle.pm_match.specs.Cache.{AreReady, IsNumberOf}
use Rattle.pm_match.proofs.cache.mark_starts.Given as goal

abbrev pub decreases-loop-place : goal.decreases-loop-place
decreases-loop-place l = l.place

abbrev pub invariant-loop-place : goal.invariant-loop-place
invariant-loop-place l = record {
  above : l.bounds.low ≤ l.place;
  below : l.place ≤ l.bounds.high;
  len : vec_len l.marks ≡ vec_len l.initial.marks;
  ready : AreReady false l.program.steps.items l.program.exit l.cache;
  at : IsNumberOf l.program.steps.items l.area l.program.exit l.place l.cache l.at;
  marked : (k : ℕ) → l.place ≤ l.bounds.low + k → l.bounds.low + k < l.bounds.high → Holds l.marks.items k ↔ ReachesExit l.program.steps.items l.area l.program.exit l.program.entry (l.bounds.low + k);
}
