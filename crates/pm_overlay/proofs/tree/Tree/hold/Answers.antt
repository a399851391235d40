use Rattle.std.proofs.Common.{sym}
use Rattle.pm_overlay.proofs.Steps.{held, none_of}
use Rattle.pm_overlay.proofs.Updates.{on_ok_map}
use Rattle.pm_overlay.proofs.tree.Tree.hold.Goals as goal

pub returns-clause-ok : goal.returns-clause-ok
returns-clause-ok g c = on_ok_map c.put.result c.put.ensures.ok (λ s. held _ _ c.args.name.now c.args.len c.in_ok-front.front (none_of _ (sym c.if-contains_key.ensures)) c.in_ok-front.ensures s)
