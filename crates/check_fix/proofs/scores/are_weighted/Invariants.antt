use Rattle.std.proofs.Common.{◌≡◌, drop}
use Rattle.check_fix.specs.Scores.{are_weighted}
use Rattle.check_fix.proofs.scores.are_weighted.Given as goal

abbrev pub invariant-loop-span : goal.invariant-loop-span
invariant-loop-span l = are_weighted (drop l.span-index l.spans) ≡ are_weighted l.spans
