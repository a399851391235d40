use Rattle.std.proofs.Common.{◌≡◌, drop, option_copied}
use Rattle.explain_text.specs.Destinations.{last_found, last_program}
use Rattle.explain_text.proofs.destination.last_program.Given as goal

abbrev pub invariant-loop-entry : goal.invariant-loop-entry
invariant-loop-entry l = last_found (drop l.entry-index l.entries) (option_copied l.found) ≡ last_program l.entries
