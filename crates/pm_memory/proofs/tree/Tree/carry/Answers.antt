use Rattle.std.proofs.Common.{rules}
use Rattle.pm_memory.specs.Tree.{world_in}
use Rattle.pm_memory.proofs.Moves.{carried, gone}
use Rattle.pm_memory.proofs.tree.Tree.carry.Goals as goal

pub unreachable-requires-in_default-get_mut : goal.unreachable-requires-in_default-get_mut
unreachable-requires-in_default-get_mut c =
    gone c.args.self.now.nodes c.remove.new.self c.args.from.now c.args.to.now c.remove.ensures.updates c.requires.apart c.requires.place c.in_default-get_mut.ensures.value

pub returns-clause-world : goal.returns-clause-world
returns-clause-world c =
    carried c.args.self.now.nodes c.remove.new.self (c.get_mut.follows.lender c.in-Some.node) (world_in c.args.self.now) c.args.from.now c.args.to.now c.in-Some.node c.remove.ensures.updates
    ((c.get_mut.follows.holds c.in-Some.node).3 (search rules)) c.in-Some.ensures.value
