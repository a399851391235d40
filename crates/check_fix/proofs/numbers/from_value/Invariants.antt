use Rattle.std.proofs.Common.{◌≡◌, drop}
use Rattle.check_fix.specs.Numbers.{from_value}
use Rattle.check_fix.proofs.numbers.from_value.Given as goal

abbrev pub invariant-loop-i : goal.invariant-loop-i
invariant-loop-i l = from_value l.name l.place (drop l.i l.spans) ≡ from_value l.name l.place l.spans
