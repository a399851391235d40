use Rattle.pm_overlay.proofs.Steps.{looked_held, was_cut, not_cut}
use Rattle.pm_overlay.proofs.tree.Tree.cut.Goals as goal

pub returns-in-Some : goal.returns-in-Some
returns-in-Some g c = was_cut _ _ _ c.args.name.now c.args.len (looked_held _ _ _ c.args.name.now c.in-File.had c.in-File.ensures c.in_default-hold.ensures.ok) c.in-Some.ensures.some

pub returns-in-None : goal.returns-in-None
returns-in-None g c = not_cut _ _ _ c.args.name.now c.args.len (looked_held _ _ _ c.args.name.now c.in-File.had c.in-File.ensures c.in_default-hold.ensures.ok) c.in-None.ensures.none
