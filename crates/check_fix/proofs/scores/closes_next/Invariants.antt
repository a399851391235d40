use Rattle.std.proofs.Common.{◌≡◌, drop}
use Rattle.check_fix.specs.Scores.{closes_next}
use Rattle.check_fix.proofs.scores.closes_next.Given as goal

abbrev pub invariant-loop-span : goal.invariant-loop-span
invariant-loop-span l = closes_next (drop l.span-index l.spans) ≡ closes_next l.spans
