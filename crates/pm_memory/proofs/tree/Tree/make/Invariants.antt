use Rattle.std.proofs.Common.{◌≡◌, drop}
use Rattle.pm_host.specs.World.{after_changes}
use Rattle.pm_memory.specs.Tree.{world_in, child_at}
use Rattle.pm_memory.proofs.tree.Tree.make.Given as goal

abbrev pub invariant-loop-change : goal.invariant-loop-change
invariant-loop-change l = record {
  made : after_changes (drop l.change-index l.changes) (world_in l.self) ≡ after_changes l.changes (world_in l.fn.self);
  child : child_at l.self ≡ child_at l.fn.self;
}
