use Rattle.std.proofs.Common.{◌≤◌, ◌+◌, length, reverse}
use Rattle.pm_journal.specs.Executed.{LeadsTo}
use Rattle.lockfile_top.specs.Doing.{remove_each, say_then}
use Rattle.lockfile_top.specs.declared.tasks.Ending.TheVariants.{GaveUp}
use Rattle.lockfile_top.proofs.doing.give_up.Given as goal

abbrev pub invariant-loop-name : goal.invariant-loop-name
invariant-loop-name g l = record {
  leads : LeadsTo (remove_each (reverse l.fn.made.items) (say_then l.fn.sorry GaveUp)) (remove_each (reverse l.made.items) (say_then l.fn.sorry GaveUp)) l.fn.journal l.journal (g.D.Asks.told l.fn.outside) (g.D.Asks.told l.outside);
  room : length l.made.items + 1 ≤ l.journal.room;
}

abbrev pub decreases-loop-name : goal.decreases-loop-name
decreases-loop-name g l = length l.made.items
