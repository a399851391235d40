use Rattle.pm_journal.proofs.LastEntry.{reply_noted}
use Rattle.pm_journal.proofs.kept.LastReplyEntries.note.Goals as goal

pub invariant_of-self-clause-last : goal.invariant_of-self-clause-last
invariant_of-self-clause-last c = rw (c.note.ensures.reply, c.note.ensures.entries) (reply_noted c.args.self.now.history c.args.entry)
