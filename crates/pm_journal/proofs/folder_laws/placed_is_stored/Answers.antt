use Rattle.pm_journal.proofs.PlaceStored.{placed_is_stored}
use Rattle.pm_journal.proofs.folder_laws.placed_is_stored.Goals as goal

pub returns : goal.returns
returns c = placed_is_stored
