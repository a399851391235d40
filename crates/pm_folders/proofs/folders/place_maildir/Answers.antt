use Rattle.pm_folders.proofs.PlaceLemmas.{maildir_placed, numbered}
use Rattle.pm_folders.proofs.folders.place_maildir.Goals as goal

pub returns-then-make_folders : goal.returns-then-make_folders
returns-then-make_folders g c = λ prefix.
    let made = rw (c.as_slice.ensures.value, c.in-Ok.ensures) at c.if-make_folders.ensures in
    maildir_placed _ _ _ _ _ _ _ _ _ made (numbered _ _ c.in-Ok-maildir_names.ensures) c.file_in_first.ensures
