use Rattle.std.proofs.Common.{◌≡◌, sum_by, take}
use Rattle.pm_top.specs.Counting.{piece_length}
use Rattle.pm_top.proofs.totals.count_bytes.Given as goal

abbrev pub invariant-loop-entry : goal.invariant-loop-entry
invariant-loop-entry l = l.bytes ≡ sum_by (λ e. piece_length e.act) (take l.entry-index l.entries)
