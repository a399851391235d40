use Rattle.std.proofs.Common.{◌≡◌, ℕ, ◌<◌, length, vec_len}
use Rattle.pm_match.specs.Labels.{Below}
use Rattle.pm_match.specs.Backward.{Holds}
use Rattle.pm_match.proofs.forward.load.Given as goal

abbrev pub invariant-loop-state : goal.invariant-loop-state
invariant-loop-state l = record {
  len : vec_len l.labels.of ≡ length l.set;
  sound : (q v : ℕ) → Below l.labels.of.items q v → Holds l.set q;
  whole : (q : ℕ) → q < l.state → Holds l.set q → (v : ℕ) × Below l.labels.of.items q v;
}
