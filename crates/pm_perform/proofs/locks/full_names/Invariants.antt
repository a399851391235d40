use Rattle.std.proofs.Common.{◌≡◌, map, take}
use Rattle.pm_meaning.specs.Destinations.{full_of}
use Rattle.pm_perform.proofs.locks.full_names.Given as goal

abbrev pub invariant-loop-destination : goal.invariant-loop-destination
invariant-loop-destination l = l.all.items ≡ map (full_of l.base) (take l.destination-index l.destinations)
