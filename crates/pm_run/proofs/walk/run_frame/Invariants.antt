use Rattle.std.proofs.Common.{◌≤◌}
use Rattle.pm_meaning.specs.Minds.{mind_of}
use Rattle.pm_meaning.specs.Running.{Running}
use Rattle.pm_run.specs.Frames.{items_of, left_over}
use Rattle.pm_run.specs.Ends.{copies_left}
use Rattle.pm_run.proofs.RunLemmas.{RunsOn}
use Rattle.pm_run.proofs.walk.run_frame.Given as goal

abbrev pub invariant-loop-end : goal.invariant-loop-end
invariant-loop-end g l = record {
  runs : RunsOn l.fn.queue l.queue (Running (items_of l.fn.frame) (mind_of l.fn.run.process)) (Running (items_of l.frame) (mind_of l.run.process))
      l.fn.run.journal l.run.journal (g.D.Asks.told l.fn.run.outside) (g.D.Asks.told l.run.outside);
  few : copies_left l.queue ≤ copies_left l.fn.queue;
}

abbrev pub decreases-loop-end : goal.decreases-loop-end
decreases-loop-end g l = left_over l.run.process.openings l.frame
