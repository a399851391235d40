use Rattle.std.proofs.Common.{◌≡◌, ◌++◌, length}
use Rattle.explain_text.specs.Destinations.{delivered_in}
use Rattle.explain_text.proofs.destination.delivered_in.Given as goal

-- what is made, and what the rest gives
abbrev pub invariant-loop-entry : goal.invariant-loop-entry
invariant-loop-entry l = l.made.items ++ delivered_in l.left ≡ delivered_in l.fn.entries

abbrev pub decreases-loop-entry : goal.decreases-loop-entry
decreases-loop-entry l = length l.left
