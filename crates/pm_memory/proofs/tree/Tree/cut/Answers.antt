use Rattle.std.proofs.Common.{rules, Some, subst}
use Rattle.pm_memory.specs.Tree.{world_in}
use Rattle.pm_memory.proofs.Updates.{UpdatesAt, file_cut, rewritten, on_ok_both, on_err_then}
use Rattle.pm_memory.proofs.tree.Tree.cut.Goals as goal

pub returns-in-Some-clause-ok : goal.returns-in-Some-clause-ok
returns-in-Some-clause-ok c =
    on_ok_both c.shorten.result c.shorten.ensures.there c.shorten.ensures.ok
    (file_cut c.args.self.now.nodes (c.get_mut.follows.lender c.shorten.new.node) (world_in c.args.self.now) c.args.name.now c.args.len c.in-Some.node.now c.shorten.new.node c.in-Some.ensures.value
    ((c.get_mut.follows.holds c.shorten.new.node).3 (search rules)))

pub returns-in-Some-clause-same : goal.returns-in-Some-clause-same
returns-in-Some-clause-same c =
    on_err_then c.shorten.result c.shorten.ensures.same
    (λ e. rewritten c.args.self.now.nodes (c.get_mut.follows.lender c.shorten.new.node) (world_in c.args.self.now) c.args.name.now c.in-Some.node.now c.in-Some.ensures.value
    (subst (λ w. UpdatesAt c.args.name.now c.args.self.now.nodes (c.get_mut.follows.lender c.shorten.new.node) (Some w)) e ((c.get_mut.follows.holds c.shorten.new.node).3 (search rules))))
