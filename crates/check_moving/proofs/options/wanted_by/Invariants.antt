use Rattle.std.proofs.Common.{◌≡◌, length}
use Rattle.check_moving.specs.Options.{wanted_of}
use Rattle.check_moving.proofs.options.wanted_by.Given as goal

abbrev pub invariant-loop-letter : goal.invariant-loop-letter
invariant-loop-letter l = wanted_of l.rest ≡ wanted_of l.initial.group

abbrev pub decreases-loop-letter : goal.decreases-loop-letter
decreases-loop-letter l = length l.rest
