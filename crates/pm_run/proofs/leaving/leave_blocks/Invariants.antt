use Rattle.std.proofs.Common.{◌≡◌, ◌≤◌}
use Rattle.pm_journal.specs.Walking.{Reaches}
use Rattle.pm_meaning.specs.Minds.{mind_of}
use Rattle.pm_meaning.specs.Running.{Event, Leaving, step}
use Rattle.pm_run.specs.Frames.{all_locks, left_in}
use Rattle.pm_run.proofs.leaving.leave_blocks.Given as goal

abbrev pub invariant-loop-open : goal.invariant-loop-open
invariant-loop-open g l = record {
  reaches : Reaches {X = Event} step (Leaving (all_locks l.fn.frame) l.fn.end (mind_of l.fn.run.process)) (Leaving (all_locks l.frame) l.fn.end (mind_of l.run.process))
      l.fn.run.journal l.run.journal (g.D.Asks.told l.fn.run.outside) (g.D.Asks.told l.run.outside);
  count : l.run.process.openings ≡ l.fn.run.process.openings;
  left : left_in l.frame ≤ left_in l.fn.frame;
}

abbrev pub decreases-loop-open : goal.decreases-loop-open
decreases-loop-open g l = left_in l.frame
