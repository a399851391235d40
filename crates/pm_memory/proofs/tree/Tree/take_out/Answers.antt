use Rattle.std.proofs.Common.{None}
use Rattle.pm_memory.specs.Tree.{world_in}
use Rattle.pm_memory.proofs.Updates.{updated}
use Rattle.pm_memory.proofs.tree.Tree.take_out.Goals as goal

pub returns-clause-world : goal.returns-clause-world
returns-clause-world c = updated c.args.self.now.nodes c.remove.new.self (world_in c.args.self.now) c.args.name.now None c.remove.ensures.updates
