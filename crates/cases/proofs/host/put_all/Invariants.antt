use Rattle.std.proofs.Common.{◌≡◌}
use Rattle.pm_memory.specs.Host.{child_of}
use Rattle.cases.proofs.host.put_all.Given as goal

abbrev pub invariant-loop-stands : goal.invariant-loop-stands
invariant-loop-stands l = child_of l.host ≡ child_of l.fn.host
