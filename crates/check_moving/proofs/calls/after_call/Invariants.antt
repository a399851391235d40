use Rattle.std.proofs.Common.{◌≡◌, length}
use Rattle.check_moving.specs.Options.{after_call}
use Rattle.check_moving.proofs.calls.after_call.Given as goal

abbrev pub invariant-loop-word : goal.invariant-loop-word
invariant-loop-word l = after_call l.rest ≡ after_call l.initial.words

abbrev pub decreases-loop-word : goal.decreases-loop-word
decreases-loop-word l = length l.rest
