use Rattle.std.proofs.Common.{◌≡◌, ℕ, ◌+◌, ◌<◌, ◌≤◌, length, vec_len}
use Rattle.pm_match.specs.Backward.{Holds, AllReachExit, missing}
use Rattle.pm_match.proofs.backward.sweep_listed.Given as goal

abbrev pub decreases-loop-number : goal.decreases-loop-number
decreases-loop-number l = l.number

abbrev pub invariant-loop-number : goal.invariant-loop-number
invariant-loop-number l = record {
  within : l.number ≤ length l.steps;
  kept : (q : ℕ) → Holds l.initial.set.items q → Holds l.set.items q;
  sound : (exit : ℕ) → (l.place < length l.area → AllReachExit l.steps l.area exit (l.place + 1) l.next)
      → AllReachExit l.steps l.area exit l.place l.initial.set.items → AllReachExit l.steps l.area exit l.place l.set.items;
  len : vec_len l.set ≡ vec_len l.initial.set;
  lighter : missing l.set.items ≤ missing l.initial.set.items;
}
