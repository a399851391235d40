use Rattle.pm_overlay.proofs.Steps.{free_after}
use Rattle.pm_overlay.proofs.tree.Tree.create.Goals as goal

pub create_there-requires : goal.create_there-requires
create_there-requires g c = free_after _ _ c.args.name.now c.in-Nothing.ensures
