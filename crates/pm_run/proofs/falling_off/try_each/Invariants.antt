use Rattle.std.proofs.Common.{length}
use Rattle.pm_journal.specs.Walking.{Reaches}
use Rattle.pm_meaning.specs.Minds.{mind_of}
use Rattle.pm_meaning.specs.Running.{FallingOff, Event, step}
use Rattle.pm_run.proofs.falling_off.try_each.Given as goal

abbrev pub invariant-loop-mailbox : goal.invariant-loop-mailbox
invariant-loop-mailbox g l = record {
  reaches : Reaches {X = Event} step (FallingOff l.fn.mailboxes.items (mind_of l.fn.run.process)) (FallingOff l.mailboxes.items (mind_of l.run.process)) l.fn.run.journal l.run.journal (g.D.Asks.told l.fn.run.outside) (g.D.Asks.told l.run.outside);
}

abbrev pub decreases-loop-mailbox : goal.decreases-loop-mailbox
decreases-loop-mailbox g l = length l.mailboxes.items
