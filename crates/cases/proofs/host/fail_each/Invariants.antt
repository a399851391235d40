use Rattle.std.proofs.Common.{◌≡◌}
use Rattle.pm_memory.specs.Host.{child_of}
use Rattle.cases.proofs.host.fail_each.Given as goal

abbrev pub invariant-loop-call : goal.invariant-loop-call
invariant-loop-call l = child_of l.host ≡ child_of l.fn.host
