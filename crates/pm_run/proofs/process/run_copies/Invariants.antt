use Rattle.pm_run.specs.Ends.{copies_left}
use Rattle.pm_run.specs.Others.{next_in, GoesOn}
use Rattle.pm_run.proofs.process.run_copies.Given as goal

abbrev pub invariant-loop-copy : goal.invariant-loop-copy
invariant-loop-copy g l = record {
  goes : GoesOn (next_in l.fn.others.queue l.fn.others.first l.fn.others.counts) (next_in l.queue l.fn.others.first l.counted) l.fn.idle.journal l.idle.journal (g.D.Asks.told l.fn.outside) (g.D.Asks.told l.outside);
}

abbrev pub decreases-loop-copy : goal.decreases-loop-copy
decreases-loop-copy g l = copies_left l.queue
