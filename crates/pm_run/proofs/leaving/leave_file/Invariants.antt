use Rattle.std.proofs.Common.{◌≡◌, List, length}
use Rattle.pm_journal.specs.Walking.{Reaches}
use Rattle.pm_meaning.specs.Minds.{mind_of}
use Rattle.pm_meaning.specs.Running.{Item, Event, LeavingFile, step}
use Rattle.pm_run.specs.Frames.{block_locks}
use Rattle.pm_run.proofs.leaving.leave_file.Given as goal

abbrev pub invariant-loop-open : goal.invariant-loop-open
invariant-loop-open g l = record {
  reaches : (items : List Item) → Reaches {X = Event} step (LeavingFile (block_locks l.fn.blocks.items) items (mind_of l.fn.run.process)) (LeavingFile (block_locks l.blocks.items) items (mind_of l.run.process))
      l.fn.run.journal l.run.journal (g.D.Asks.told l.fn.run.outside) (g.D.Asks.told l.run.outside);
  count : l.run.process.openings ≡ l.fn.run.process.openings;
}

abbrev pub decreases-loop-open : goal.decreases-loop-open
decreases-loop-open g l = length l.blocks.items
