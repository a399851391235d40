use Rattle.std.proofs.Common.{◌≡◌, filter, map}
use Rattle.std.specs.Map.Iter.{deref_pair}
use Rattle.pm_vars.specs.Held.{live}
use Rattle.pm_vars.specs.Variables.{is_exported, variable_of}
use Rattle.pm_vars.proofs.values.export_held.Given as goal

abbrev pub invariant-loop-name : goal.invariant-loop-name
invariant-loop-name l = map variable_of l.pairs.items ≡ filter is_exported (live (map deref_pair l.yielded))
