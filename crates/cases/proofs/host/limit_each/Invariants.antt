use Rattle.std.proofs.Common.{◌≡◌}
use Rattle.pm_memory.specs.Host.{child_of}
use Rattle.cases.proofs.host.limit_each.Given as goal

abbrev pub invariant-loop-limit : goal.invariant-loop-limit
invariant-loop-limit l = child_of l.host ≡ child_of l.fn.host
