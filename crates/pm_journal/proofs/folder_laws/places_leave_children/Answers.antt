use Rattle.pm_journal.proofs.PlaceChildren.{place_child}
use Rattle.pm_journal.proofs.folder_laws.places_leave_children.Goals as goal

pub returns : goal.returns
returns c = place_child
