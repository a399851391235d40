use Rattle.std.proofs.Common.{◌≡◌, map, take}
use Rattle.pm_meaning.specs.Minds.{mind_of}
use Rattle.pm_perform.specs.Copies.{copy_for}
use Rattle.pm_perform.proofs.filing.copies_for.Given as goal

abbrev pub invariant-loop-destination : goal.invariant-loop-destination
invariant-loop-destination l =
    (l.copies.items ≡ map (copy_for l.flags (mind_of l.fn.process)) (take l.destination-index l.destinations)) × (l.process ≡ l.fn.process)
