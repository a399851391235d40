use Rattle.std.proofs.Common.{◌≤◌, ◌+◌, ◌*◌, length}
use Rattle.std.specs.Prelude.{vec_capacity}
use Rattle.pm_journal.specs.Executed.{LeadsTo}
use Rattle.lockfile_top.specs.Doing.{do_tasks}
use Rattle.lockfile_top.specs.Jobs.{AllReady, tasks_of}
use Rattle.lockfile_top.proofs.doing.do_jobs.Given as goal

abbrev pub invariant-loop-job : goal.invariant-loop-job
invariant-loop-job g l = record {
  leads : LeadsTo (do_tasks (tasks_of l.fn.jobs.items) l.fn.made.items) (do_tasks (tasks_of l.jobs.items) l.made.items) l.fn.journal l.journal (g.D.Asks.told l.fn.outside) (g.D.Asks.told l.outside);
  ready : AllReady l.jobs.items;
  space : length l.made.items + length l.jobs.items ≤ vec_capacity l.made;
  room : 3 * length l.jobs.items + length l.made.items + 1 ≤ l.journal.room;
}

abbrev pub decreases-loop-job : goal.decreases-loop-job
decreases-loop-job g l = length l.jobs.items
