use Rattle.std.proofs.Common.{◌≡◌, ◌++◌, length}
use Rattle.check_fix.specs.Changes.{chosen}
use Rattle.check_fix.proofs.changes.choose_from.Given as goal

abbrev pub invariant-loop-edit : goal.invariant-loop-edit
invariant-loop-edit l = l.changes.items ++ chosen l.place l.size l.rest ≡ chosen 0 l.size l.initial.edits

abbrev pub decreases-loop-edit : goal.decreases-loop-edit
decreases-loop-edit l = length l.rest
