use Rattle.std.proofs.Common.{◌≡◌, drop}
use Rattle.explain_text.specs.Destinations.{tells_delivery}
use Rattle.explain_text.proofs.destination.tells_delivery.Given as goal

abbrev pub invariant-loop-entry : goal.invariant-loop-entry
invariant-loop-entry l = tells_delivery l.last (drop l.entry-index l.rest) ≡ tells_delivery l.last l.rest
