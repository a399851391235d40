use Rattle.std.proofs.Common.{◌≡◌, ◌≤◌, take}
use Rattle.pm_subst.specs.Values.{trimmed}
use Rattle.pm_subst.proofs.values.without_newlines.Given as goal

abbrev pub invariant-loop-i : goal.invariant-loop-i
invariant-loop-i l = record {
  within : l.end ≤ l.i;
  kept : trimmed (take l.i l.output) ≡ take l.end l.output;
}
