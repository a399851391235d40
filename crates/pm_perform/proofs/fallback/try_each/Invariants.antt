use Rattle.std.proofs.Common.{length}
use Rattle.pm_journal.specs.Executed.{LeadsTo}
use Rattle.pm_meaning.specs.Delivering.{try_each, no_flags}
use Rattle.pm_meaning.specs.Minds.{mind_of}
use Rattle.pm_meaning.specs.declared.acted.Acted.TheVariants.{Failed}
use Rattle.pm_meaning.specs.declared.acted.Cause.TheVariants.{NoName}
use Rattle.pm_perform.specs.Undelivered.{Undelivered}
use Rattle.pm_perform.proofs.fallback.try_each.Given as goal

abbrev pub invariant-loop-mailbox : goal.invariant-loop-mailbox
invariant-loop-mailbox g l = record {
  leads : LeadsTo (try_each l.fn.mailboxes.items (Failed NoName) (mind_of l.fn.run.process)) (try_each l.mailboxes.items l.acted (mind_of l.run.process))
      l.fn.run.journal l.run.journal (g.D.Asks.told l.fn.run.outside) (g.D.Asks.told l.run.outside);
  sure : Undelivered no_flags l.fn.run.journal l.run.journal;
}

abbrev pub decreases-loop-mailbox : goal.decreases-loop-mailbox
decreases-loop-mailbox g l = length l.mailboxes.items
