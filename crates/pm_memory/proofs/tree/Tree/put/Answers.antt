use Rattle.std.proofs.Common.{Some, subst}
use Rattle.pm_memory.specs.Tree.{world_in}
use Rattle.pm_memory.proofs.Updates.{UpdatesAt, updated}
use Rattle.pm_memory.proofs.tree.Tree.put.Goals as goal

pub returns-clause-ok : goal.returns-clause-ok
returns-clause-ok c =
    updated c.args.self.now.nodes c.insert.new.self (world_in c.args.self.now) c.args.name.now (Some c.args.node)
    (subst (λ bs. UpdatesAt bs c.args.self.now.nodes c.insert.new.self (Some c.args.node)) c.in_ok-key.ensures.ok c.in_ok-insert.ensures.updates)
