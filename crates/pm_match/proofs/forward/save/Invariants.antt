use Rattle.std.proofs.Common.{◌≡◌, ◌↔◌, ℕ, ◌<◌, vec_len}
use Rattle.pm_match.specs.Labels.{Below}
use Rattle.pm_match.specs.Backward.{Holds}
use Rattle.pm_match.proofs.forward.save.Given as goal

abbrev pub invariant-loop-state : goal.invariant-loop-state
invariant-loop-state l = record {
  len : vec_len l.set ≡ vec_len l.initial.set;
  exact : (q : ℕ) → q < l.state → Holds l.set.items q ↔ ((v : ℕ) × Below l.labels.of.items q v);
}
