use Rattle.std.proofs.Common.{rules}
use Rattle.pm_overlay.specs.declared.changed.Changed.TheVariants.{Gone}
use Rattle.pm_overlay.proofs.Updates.{has, puts}
use Rattle.pm_overlay.proofs.tree.Tree.leave.Goals as goal

pub returns : goal.returns
returns g c =
    let m = c.args.self.now.changes in
    let n = c.get_mut.follows.lender Gone in
    has (g.B.Base.told c.args.self.now.base) m n c.args.self.now.slept c.args.name.now Gone (puts m n c.args.name.now Gone ((c.get_mut.follows.holds Gone).3 (search rules)))
