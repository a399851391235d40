use Rattle.std.proofs.Common.{◌≡◌, ◌++◌, length}
use Rattle.check_moving.specs.Options.{given_from}
use Rattle.check_moving.proofs.options.read_options.Given as goal

abbrev pub invariant-loop-word : goal.invariant-loop-word
invariant-loop-word l = l.options.items ++ given_from l.wanted l.rest ≡ given_from 0 l.initial.words

abbrev pub decreases-loop-word : goal.decreases-loop-word
decreases-loop-word l = length l.rest
