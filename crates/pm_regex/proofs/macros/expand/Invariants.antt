use Rattle.std.proofs.Common.{length, ◌-◌, ◌≤◌}
use Rattle.pm_regex.proofs.ExpandLemmas.{IsExpandedTo}
use Rattle.pm_regex.proofs.macros.expand.Given as goal

abbrev pub invariant-loop-place : goal.invariant-loop-place
invariant-loop-place l = record {
  within : l.place ≤ length l.text;
  room : length l.after.items ≤ 65536;
  expanded : IsExpandedTo l.text l.place l.after.items;
}

abbrev pub decreases-loop-place : goal.decreases-loop-place
decreases-loop-place l = length l.text - l.place
