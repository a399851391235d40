use Rattle.std.proofs.Common.{◌≡◌, ◌≤◌, count_by, take}
use Rattle.pm_top.specs.Counting.{is_lock}
use Rattle.pm_top.proofs.totals.count_locks.Given as goal

abbrev pub invariant-loop-entry : goal.invariant-loop-entry
invariant-loop-entry l = record {
  counted : l.count ≡ count_by (λ e. is_lock e.act) (take l.entry-index l.entries);
  within : l.count ≤ l.entry-index;
}
