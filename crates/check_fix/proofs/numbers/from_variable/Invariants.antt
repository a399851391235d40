use Rattle.std.proofs.Common.{◌≡◌, length}
use Rattle.check_fix.specs.Numbers.{from_variable}
use Rattle.check_fix.proofs.numbers.from_variable.Given as goal

abbrev pub invariant-loop-byte : goal.invariant-loop-byte
invariant-loop-byte l = from_variable l.rest ≡ from_variable l.initial.text

abbrev pub decreases-loop-byte : goal.decreases-loop-byte
decreases-loop-byte l = length l.rest
