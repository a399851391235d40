use Rattle.std.proofs.Common.{rules}
use Rattle.pm_overlay.proofs.Updates.{shortens}
use Rattle.pm_overlay.proofs.tree.Tree.shorten_held.Goals as goal

pub returns-clause-some : goal.returns-clause-some
returns-clause-some g c =
    shortens _ _ c.args.self.now.changes (c.get_mut.follows.lender c.shorten.new.self) c.args.self.now.slept c.args.name.now c.in_ok-front.front c.args.len c.in_ok-get.field-0.now c.in_ok-get_mut.field-0.now c.shorten.new.self c.in_ok-front.ensures.stays c.in_ok-get.ensures.value c.in_ok-get_mut.ensures.value
    ((c.get_mut.follows.holds c.shorten.new.self).3 (search rules)) c.in_ok-front.ensures.front c.shorten.ensures
