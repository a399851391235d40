use Rattle.std.proofs.Common.{subst, sym}
use Rattle.pm_journal.specs.Held.{Keeping}
use Rattle.pm_journal.proofs.KeepingActs.{keeping_given}
use Rattle.pm_journal.proofs.locks.give.Goals as goal

pub returns-clause-keeping : goal.returns-clause-keeping
returns-clause-keeping g c =
    let notes = rw c.in-Some.ensures.some at c.unlock.ensures in
    subst (Keeping c.unlock.new.journal) (sym c.give.ensures.names) (keeping_given _ _ _ _ _ _ _ c.requires.keeping c.requires.held notes)
