use Rattle.std.proofs.Common.{◌≡◌, drop}
use Rattle.check_fix.specs.Scores.{after_gaps}
use Rattle.check_fix.proofs.scores.past_gaps.Given as goal

abbrev pub invariant-loop-i : goal.invariant-loop-i
invariant-loop-i l = after_gaps (drop l.i l.spans) ≡ after_gaps l.spans
