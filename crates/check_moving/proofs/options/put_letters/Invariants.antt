use Rattle.std.proofs.Common.{◌≡◌, ◌++◌, length}
use Rattle.check_moving.specs.Options.{letters_of}
use Rattle.check_moving.proofs.options.put_letters.Given as goal

abbrev pub invariant-loop-letter : goal.invariant-loop-letter
invariant-loop-letter l = l.options.items ++ letters_of l.rest ≡ l.fn.options.items ++ letters_of l.initial.group

abbrev pub decreases-loop-letter : goal.decreases-loop-letter
decreases-loop-letter l = length l.rest
