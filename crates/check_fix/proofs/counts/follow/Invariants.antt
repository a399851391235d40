use Rattle.std.proofs.Common.{◌≡◌, drop}
use Rattle.check_fix.specs.Counts.{follow}
use Rattle.check_fix.proofs.counts.follow.Given as goal

abbrev pub invariant-loop-span : goal.invariant-loop-span
invariant-loop-span l = follow l.left (drop l.span-index l.spans) ≡ follow l.count l.spans
