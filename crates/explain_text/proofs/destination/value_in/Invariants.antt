use Rattle.std.proofs.Common.{◌≡◌, drop}
use Rattle.explain_text.specs.Destinations.{value_in}
use Rattle.explain_text.proofs.destination.value_in.Given as goal

abbrev pub invariant-loop-pair : goal.invariant-loop-pair
invariant-loop-pair l = value_in l.name (drop l.pair-index l.variables) ≡ value_in l.name l.variables
