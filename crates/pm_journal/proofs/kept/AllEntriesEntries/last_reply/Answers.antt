use Rattle.std.proofs.Common.{sym}
use Rattle.pm_journal.proofs.LastEntry.{reply_of_last}
use Rattle.pm_journal.proofs.kept.AllEntriesEntries.last_reply.Goals as goal

pub returns-in-Some : goal.returns-in-Some
returns-in-Some c = reply_of_last c.args.self.now.noted.items _ (sym (rw c.as_slice.ensures.value at c.in-Some.ensures.value))
