use Rattle.pm_folders.proofs.PlaceLemmas.{made_more, made_not, made_all, there_of}
use Rattle.pm_folders.proofs.folders.make_folders.Goals as goal

pub returns-in-Failed : goal.returns-in-Failed
returns-in-Failed g c =
    let makes = rw c.as_str.ensures.same at c.in-Failed.ensures in
    made_not _ _ _ _ _ _ c.loop-folder.invariant c.loop-folder-test.true c.folder-item.is makes

pub loop-folder-preserved : goal.loop-folder-preserved
loop-folder-preserved g c =
    let makes = rw c.as_str.ensures.same at c.make_folder.ensures in
    made_more _ _ _ _ _ _ _ c.loop-folder.invariant c.loop-folder-test.true c.folder-item.is makes (there_of c.make_folder.result c.in_default.not-Failed)

pub returns : goal.returns
returns g c = made_all _ _ _ _ c.loop-folder.invariant c.loop-folder-test.false
