use Rattle.std.proofs.Common.{◌≡◌, map, take}
use Rattle.pm_run.specs.Copies.{unlocked_block}
use Rattle.pm_run.proofs.copies.copy_blocks.Given as goal

abbrev pub invariant-loop-index : goal.invariant-loop-index
invariant-loop-index l = l.copies.items ≡ map unlocked_block (take l.index l.blocks.items)
