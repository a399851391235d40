use Rattle.std.proofs.Common.{◌≡◌, drop}
use Rattle.check_fix.specs.Values.{ends_line}
use Rattle.check_fix.proofs.values.ends_line.Given as goal

abbrev pub invariant-loop-span : goal.invariant-loop-span
invariant-loop-span l = ends_line (drop l.span-index l.spans) ≡ ends_line l.spans
