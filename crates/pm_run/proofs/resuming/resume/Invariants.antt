use Rattle.std.proofs.Common.{◌≡◌, ◌++◌, length, map}
use Rattle.pm_run.specs.Nested.{frame_of, frames_if}
use Rattle.pm_run.proofs.resuming.resume.Given as goal

abbrev pub invariant-loop-frame : goal.invariant-loop-frame
invariant-loop-frame l = map frame_of l.fn.frames.items ≡ map frame_of l.frames.items ++ frames_if l.running

abbrev pub decreases-loop-frame : goal.decreases-loop-frame
decreases-loop-frame l = length l.frames.items
