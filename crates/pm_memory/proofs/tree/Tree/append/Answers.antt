use Rattle.std.proofs.Common.{rules, Some, subst}
use Rattle.pm_memory.specs.Tree.{world_in}
use Rattle.pm_memory.proofs.Updates.{UpdatesAt, file_grew, rewritten, on_ok_both, on_err_then}
use Rattle.pm_memory.proofs.tree.Tree.append.Goals as goal

pub returns-in-Some-clause-ok : goal.returns-in-Some-clause-ok
returns-in-Some-clause-ok c =
    on_ok_both c.grow.result c.grow.ensures.there c.grow.ensures.ok
    (file_grew c.args.self.now.nodes (c.get_mut.follows.lender c.grow.new.node) (world_in c.args.self.now) c.args.name.now c.args.piece.now c.args.count c.in-Some.node.now c.grow.new.node c.in-Some.ensures.value
    ((c.get_mut.follows.holds c.grow.new.node).3 (search rules)))

pub returns-in-Some-clause-same : goal.returns-in-Some-clause-same
returns-in-Some-clause-same c =
    on_err_then c.grow.result c.grow.ensures.same
    (λ e. rewritten c.args.self.now.nodes (c.get_mut.follows.lender c.grow.new.node) (world_in c.args.self.now) c.args.name.now c.in-Some.node.now c.in-Some.ensures.value
    (subst (λ w. UpdatesAt c.args.name.now c.args.self.now.nodes (c.get_mut.follows.lender c.grow.new.node) (Some w)) e ((c.get_mut.follows.holds c.grow.new.node).3 (search rules))))
