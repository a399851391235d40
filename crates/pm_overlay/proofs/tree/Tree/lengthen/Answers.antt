use Rattle.pm_overlay.proofs.Steps.{grows}
use Rattle.pm_overlay.proofs.Updates.{on_ok_map}
use Rattle.pm_overlay.proofs.tree.Tree.lengthen.Goals as goal

pub returns-clause-ok : goal.returns-clause-ok
returns-clause-ok g c = on_ok_map c.lengthen_held.result c.lengthen_held.ensures.ok (λ t. grows _ _ _ c.args.name.now c.args.len c.args.piece.now c.in_ok-hold.ensures.ok t)
