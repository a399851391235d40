use Rattle.pm_journal.proofs.SyncedDone.{done_is_synced}
use Rattle.pm_journal.proofs.laws.done_is_synced.Goals as goal

pub returns : goal.returns
returns c = done_is_synced
