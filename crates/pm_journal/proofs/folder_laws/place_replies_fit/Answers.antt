use Rattle.pm_journal.proofs.PlaceCause.{place_reply_is}
use Rattle.pm_journal.proofs.folder_laws.place_replies_fit.Goals as goal

pub returns : goal.returns
returns c = place_reply_is
