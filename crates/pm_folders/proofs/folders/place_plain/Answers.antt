use Rattle.pm_folders.proofs.PlaceLemmas.{plain_placed, numbered}
use Rattle.pm_folders.proofs.folders.place_plain.Goals as goal

pub returns-in-Ok : goal.returns-in-Ok
returns-in-Ok g c = plain_placed _ _ _ _ _ _ _ _ (numbered _ _ c.in-Ok.ensures) c.file_in_first.ensures
