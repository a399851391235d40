use Rattle.std.proofs.Common.{◌-◌, ◌≤◌}
use Rattle.pm_match.proofs.cache.find_set.Given as goal

abbrev pub decreases-loop-index : goal.decreases-loop-index
decreases-loop-index l = l.cache.count - l.index

abbrev pub invariant-loop-index : goal.invariant-loop-index
invariant-loop-index l = record {
  near : l.index ≤ l.cache.count;
}
