use Rattle.std.proofs.Common.{◌≡◌}
use Rattle.pm_memory.specs.Host.{child_of}
use Rattle.cases.proofs.host.batch_each.Given as goal

abbrev pub invariant-loop-batch : goal.invariant-loop-batch
invariant-loop-batch l = child_of l.host ≡ child_of l.fn.host
