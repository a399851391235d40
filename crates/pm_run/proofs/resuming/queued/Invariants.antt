use Rattle.std.proofs.Common.{◌≡◌, ◌++◌, length}
use Rattle.pm_run.proofs.resuming.queued.Given as goal

abbrev pub invariant-loop-block : goal.invariant-loop-block
invariant-loop-block l = l.fn.blocks.items ≡ l.blocks.items ++ l.queue.items

abbrev pub decreases-loop-block : goal.decreases-loop-block
decreases-loop-block l = length l.blocks.items
