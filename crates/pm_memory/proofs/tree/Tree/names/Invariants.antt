use Rattle.std.proofs.Common.{◌≡◌, ◌++◌}
use Rattle.std.specs.BTreeMap.{keys}
use Rattle.pm_memory.proofs.Listing.{parts_in}
use Rattle.pm_memory.proofs.tree.Tree.names.Given as goal

abbrev pub invariant-loop-name : goal.invariant-loop-name
invariant-loop-name l = l.names.items ++ parts_in l.folder l.name-iterator ≡ parts_in l.folder (keys l.self.nodes)
