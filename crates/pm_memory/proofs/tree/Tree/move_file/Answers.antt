use Rattle.pm_memory.specs.Tree.{world_in}
use Rattle.pm_memory.proofs.Moves.{moved, put_there, put_place}
use Rattle.pm_memory.proofs.tree.Tree.move_file.Goals as goal

pub carry-requires-clause-there : goal.carry-requires-clause-there
carry-requires-clause-there c = put_there (world_in c.args.self.now) (world_in c.put.new.self) c.args.from.now c.args.to.now c.requires.file c.requires.free c.in_ok-put.ensures.ok

pub carry-requires-clause-place : goal.carry-requires-clause-place
carry-requires-clause-place c = put_place (world_in c.args.self.now) (world_in c.put.new.self) c.args.to.now c.in_ok-put.ensures.ok

pub returns-clause-ok : goal.returns-clause-ok
returns-clause-ok c = moved (world_in c.args.self.now) (world_in c.put.new.self) (world_in c.carry.new.self) c.args.from.now c.args.to.now c.requires.file c.requires.free c.in_ok-put.ensures.ok c.carry.ensures.world
