use Rattle.pm_overlay.proofs.Steps.{free_after}
use Rattle.pm_overlay.proofs.tree.Tree.make_folder.Goals as goal

pub make_folder_there-requires : goal.make_folder_there-requires
make_folder_there-requires g c = free_after _ _ c.args.name.now c.in-Nothing.ensures
