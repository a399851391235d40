use Rattle.std.proofs.Common.{◌≡◌, ℕ, ◌+◌, ◌<◌, ◌≤◌, true, false, length, vec_len}
use Rattle.pm_match.specs.Backward.{Holds, AllReachExit, LeadsInto, missing}
use Rattle.pm_match.proofs.backward.sweep_up.Given as goal

abbrev pub invariant-loop-state : goal.invariant-loop-state
invariant-loop-state l = record {
  kept : (q : ℕ) → Holds l.initial.set.items q → Holds l.set.items q;
  sound : (exit : ℕ) → (l.place < length l.area → AllReachExit l.steps l.area exit (l.place + 1) l.next)
      → AllReachExit l.steps l.area exit l.place l.initial.set.items → AllReachExit l.steps l.area exit l.place l.set.items;
  len : vec_len l.set ≡ vec_len l.initial.set;
  lighter : missing l.set.items ≤ missing l.initial.set.items;
  fewer : l.is_more ≡ true → missing l.set.items < missing l.initial.set.items;
  closed : l.is_more ≡ false → (q : ℕ) → q < l.state → LeadsInto l.steps l.area l.place l.set.items l.next q → Holds l.set.items q;
}
