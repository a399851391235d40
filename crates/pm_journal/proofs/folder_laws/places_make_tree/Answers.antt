use Rattle.pm_journal.proofs.PlaceEffect.{place_effect}
use Rattle.pm_journal.proofs.folder_laws.places_make_tree.Goals as goal

pub returns : goal.returns
returns c = λ kind folder prefix piece stamp reply calls w g right. (place_effect kind folder prefix piece stamp reply calls w g right).is
