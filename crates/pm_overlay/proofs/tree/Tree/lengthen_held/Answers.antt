use Rattle.std.proofs.Common.{rules}
use Rattle.pm_host.specs.World.{grown}
use Rattle.pm_overlay.proofs.Updates.{becomes, written_back, on_ok_map, on_err_map}
use Rattle.pm_overlay.proofs.tree.Tree.lengthen_held.Goals as goal

pub returns-in-Some-clause-ok : goal.returns-in-Some-clause-ok
returns-in-Some-clause-ok g c =
    on_ok_map c.lengthen.result c.lengthen.ensures.ok
    (becomes (g.B.Base.told c.args.self.now.base) c.args.self.now.changes (c.get_mut.follows.lender c.lengthen.new.self) c.args.self.now.slept c.args.name.now (λ here. grown here c.args.piece.now) c.in-Some.change.now c.lengthen.new.self
    c.in-Some.ensures.value ((c.get_mut.follows.holds c.lengthen.new.self).3 (search rules)))

pub returns-in-Some-clause-err : goal.returns-in-Some-clause-err
returns-in-Some-clause-err g c =
    on_err_map c.lengthen.result c.lengthen.ensures.err
    (written_back (g.B.Base.told c.args.self.now.base) c.args.self.now.changes (c.get_mut.follows.lender c.lengthen.new.self) c.args.self.now.slept c.args.name.now c.in-Some.change.now c.lengthen.new.self
    c.in-Some.ensures.value ((c.get_mut.follows.holds c.lengthen.new.self).3 (search rules)))
