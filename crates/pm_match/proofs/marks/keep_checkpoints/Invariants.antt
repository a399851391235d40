use Rattle.std.proofs.Common.{◌≡◌, ◌+◌, ◌*◌, ◌<◌, ◌≤◌, length}
use Rattle.pm_match.specs.Backward.{IsExitSet}
use Rattle.pm_match.specs.Checkpoints.{AreCheckpoints, HasRoom}
use Rattle.pm_match.proofs.marks.keep_checkpoints.Given as goal

abbrev pub decreases-loop-index : goal.decreases-loop-index
decreases-loop-index l = l.index

abbrev pub invariant-loop-index : goal.invariant-loop-index
invariant-loop-index l = record {
  room : HasRoom l.program.steps.items l.program.entry l.program.exit l.marks;
  reach : l.marks.reach ≡ l.initial.marks.reach;
  low : l.index * 65536 < l.high;
  high : l.high ≤ l.index * 65536 + 65536;
  within : l.high ≤ length l.area;
  back : IsExitSet l.program.steps.items l.area l.program.exit l.high l.marks.set.items;
  kept : AreCheckpoints l.program.steps.items l.area l.program.exit (l.index + 1) l.marks.checkpoints.items;
}
