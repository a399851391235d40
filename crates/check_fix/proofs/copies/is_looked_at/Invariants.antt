use Rattle.std.proofs.Common.{◌≡◌, drop}
use Rattle.check_fix.specs.Copies.{is_looked_at}
use Rattle.check_fix.proofs.copies.is_looked_at.Given as goal

abbrev pub invariant-loop-span : goal.invariant-loop-span
invariant-loop-span l = is_looked_at (drop l.span-index l.spans) ≡ is_looked_at l.spans
