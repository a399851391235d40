use Rattle.std.proofs.Common.{◌≡◌}
use Rattle.pm_memory.specs.Host.{child_of}
use Rattle.cases.proofs.host.child_each.Given as goal

abbrev pub invariant-loop-program : goal.invariant-loop-program
invariant-loop-program l = child_of l.host ≡ child_of l.fn.host
