use Rattle.std.proofs.Common.{◌≡◌, ℕ, ◌≤◌, length, vec_len}
use Rattle.pm_match.specs.Backward.{Holds, AllReachExit, missing}
use Rattle.pm_match.proofs.backward.step_back.Given as goal

abbrev pub invariant-loop-state : goal.invariant-loop-state
invariant-loop-state l = record {
  len : vec_len l.set ≡ vec_len l.initial.set;
  none : (q : ℕ) → Holds l.set.items q → l.state ≤ q;
}

abbrev pub invariant-loop : goal.invariant-loop
invariant-loop l = record {
  len : vec_len l.set ≡ length l.program.steps.items;
  final : Holds l.set.items l.program.exit;
  sound : AllReachExit l.program.steps.items l.area l.program.exit l.place l.set.items;
}

abbrev pub decreases-loop : goal.decreases-loop
decreases-loop l = missing l.set.items
