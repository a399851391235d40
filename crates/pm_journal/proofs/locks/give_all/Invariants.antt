use Rattle.std.proofs.Common.{length}
use Rattle.pm_journal.specs.Held.{Keeping}
use Rattle.pm_journal.proofs.ActLemmas.{Giving}
use Rattle.pm_journal.proofs.locks.give_all.Given as goal

abbrev pub invariant-loop-name : goal.invariant-loop-name
invariant-loop-name g l = record {
  giving : Giving l.fn.held.names l.held.names l.fn.journal l.journal (g.D.Asks.told l.fn.outside) (g.D.Asks.told l.outside);
  keeping : Keeping l.journal l.held.names;
}

abbrev pub decreases-loop-name : goal.decreases-loop-name
decreases-loop-name g l = length l.held.names
