use Rattle.pm_meaning.proofs.StoredDone.{stored_is_done}
use Rattle.pm_meaning.proofs.laws.stored_is_done.Goals as goal

pub returns : goal.returns
returns c = stored_is_done
