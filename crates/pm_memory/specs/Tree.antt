-- What a tree of files in memory holds.
use Rattle.std.specs.Prelude.{ℕ, ℤ, List, [], map, Option, None}
use Rattle.std.specs.BTreeMap.{get_by_text}
use Rattle.pm_host.specs.World.{World, Step, later_moment}
use Rattle.pm_host.specs.declared.answers.Child.{Child}
use Rattle.pm_host.specs.declared.calls.Answer.{Answer}
use Rattle.pm_host.specs.declared.calls.Call.{Call}
use Rattle.pm_host.specs.declared.nodes.Change.{Change}
use Rattle.pm_host.specs.declared.nodes.Node.{Node}
use Rattle.pm_memory.specs.Programs.{children_in, inputs_in, child_in}
use Rattle.pm_memory.specs.Node.{part_of}
use Rattle.pm_memory.specs.declared.tree.Tree.{Tree}

-- the batches of changes that others will make
abbrev pub others_in : Tree → List (List Change)
others_in t = map (λ batch. batch.items) t.others.items

-- what the tree has at each name, at its moment, with what others and children will do
abbrev pub world_in : Tree → World
world_in t = record { nodes = λ name. get_by_text t.nodes name; moment = t.moment; others = others_in t; children = children_in t.programs; inputs = inputs_in t.programs }

-- whether a child runs
abbrev pub child_at : Tree → Child
child_at t = child_in t.programs

-- nothing at any name
abbrev pub no_files : ℤ → World
no_files moment = record { nodes = λ name. None; moment = moment; others = []; children = []; inputs = [] }

-- what stands at a name of the tree
abbrev pub node_at : Tree → List ℕ → Option Node
node_at t name = (world_in t).nodes name

-- the part of the file at a name from an offset on that a room holds
abbrev pub part_at : Tree → List ℕ → ℕ → ℕ → List ℕ
part_at t name at room = part_of (node_at t name) at room

-- one call with its answer, from the old tree to the new
abbrev pub IsStep : Call → Answer → Tree → Tree → Type 0
IsStep call answer old new = Step call answer (world_in old) (world_in new)

-- the world so many seconds later
abbrev pub moved_on : ℕ → World → World
moved_on seconds w = record { nodes = w.nodes; moment = later_moment w.moment seconds; others = w.others; children = w.children; inputs = w.inputs }

-- the world with these batches of changes to come
abbrev pub with_others : List (List Change) → World → World
with_others batches w = record { nodes = w.nodes; moment = w.moment; others = batches; children = w.children; inputs = w.inputs }
