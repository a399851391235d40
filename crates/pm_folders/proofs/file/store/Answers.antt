use Rattle.pm_folders.proofs.FileLemmas.{synced_so}
use Rattle.pm_folders.proofs.file.store.Goals as goal

pub returns-in-Synced : goal.returns-in-Synced
returns-in-Synced g c =
    let m = rw c.at.ensures at c.in-Synced.ensures in
    synced_so _ _ _ _ _ _ c.in_default.ensures m

pub returns-in-Failed : goal.returns-in-Failed
returns-in-Failed g c =
    let m = rw c.at.ensures at c.in-Failed.ensures in
    synced_so _ _ _ _ _ _ c.in_default.ensures m
