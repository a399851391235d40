use Rattle.std.proofs.Common.{◌≡◌, ◌++◌, drop, map}
use Rattle.explain_mails.specs.Names.{destination_name}
use Rattle.explain_mails.proofs.names.names_of.Given as goal

abbrev pub invariant-loop-destination : goal.invariant-loop-destination
invariant-loop-destination l = l.names.items ++ map destination_name (drop l.destination-index l.destinations) ≡ map destination_name l.destinations
