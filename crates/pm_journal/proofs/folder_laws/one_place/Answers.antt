use Rattle.pm_journal.proofs.PlaceGrouping.{same_place}
use Rattle.pm_journal.proofs.folder_laws.one_place.Goals as goal

pub returns : goal.returns
returns c = λ kind folder prefix piece stamp reply g h r q x y e. (same_place kind folder prefix piece stamp reply g h r q x y e).group
