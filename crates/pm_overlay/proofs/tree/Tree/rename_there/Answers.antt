use Rattle.pm_overlay.proofs.Steps.{same_held, was_moved, not_moved}
use Rattle.pm_overlay.proofs.tree.Tree.rename_there.Goals as goal

pub returns-in-Ok : goal.returns-in-Ok
returns-in-Ok g c =
    was_moved _ _ _ _ c.args.from.now c.args.to.now c.args.len c.requires.file c.requires.free (same_held _ _ _ c.args.from.now c.args.len c.requires.file c.has_place.ensures c.in_default.ensures.ok) c.in-Ok.ensures.ok c.leave.ensures

pub returns-in-Err-copy_held : goal.returns-in-Err-copy_held
returns-in-Err-copy_held g c =
    not_moved _ _ _ c.args.from.now c.args.to.now (same_held _ _ _ c.args.from.now c.args.len c.requires.file c.has_place.ensures c.in_default.ensures.ok) c.in-Err-copy_held.ensures.err
