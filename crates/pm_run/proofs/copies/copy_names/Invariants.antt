use Rattle.std.proofs.Common.{◌≡◌, take}
use Rattle.pm_run.proofs.copies.copy_names.Given as goal

abbrev pub invariant-loop-index : goal.invariant-loop-index
invariant-loop-index l = l.copies.items ≡ take l.index l.names
