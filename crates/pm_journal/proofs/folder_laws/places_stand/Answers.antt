use Rattle.pm_journal.proofs.PlaceDelivers.{place_delivers}
use Rattle.pm_journal.proofs.folder_laws.places_stand.Goals as goal

pub returns : goal.returns
returns c = place_delivers
