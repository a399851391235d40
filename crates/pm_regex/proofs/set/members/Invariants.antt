use Rattle.std.proofs.Common.{length, ◌-◌, ◌≤◌}
use Rattle.pm_regex.proofs.SetLemmas.{IsReadTo}
use Rattle.pm_regex.proofs.set.members.Given as goal

abbrev pub invariant-loop-place : goal.invariant-loop-place
invariant-loop-place l = record {
  within : l.place ≤ length l.text;
  read : IsReadTo l.text l.fn.ops.items l.place l.ops.items;
}

abbrev pub decreases-loop-place : goal.decreases-loop-place
decreases-loop-place l = length l.text - l.place
