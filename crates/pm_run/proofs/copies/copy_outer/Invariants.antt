use Rattle.std.proofs.Common.{◌≡◌, ◌≤◌, drop, length, map}
use Rattle.pm_run.specs.Copies.{unlocked_frame}
use Rattle.pm_run.specs.Nested.{frame_of, outer_frames}
use Rattle.pm_run.proofs.copies.copy_outer.Given as goal

abbrev pub invariant-loop-index : goal.invariant-loop-index
invariant-loop-index l = record {
  copies : map frame_of l.copies.items ≡ map unlocked_frame (outer_frames (drop l.index l.outer.items));
  within : l.index ≤ length l.outer.items;
}

abbrev pub decreases-loop-index : goal.decreases-loop-index
decreases-loop-index l = l.index
