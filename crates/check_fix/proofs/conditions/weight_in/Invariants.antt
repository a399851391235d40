use Rattle.std.proofs.Common.{◌≡◌, length, false}
use Rattle.check_fix.specs.Conditions.{weight_from}
use Rattle.check_fix.proofs.conditions.weight_in.Given as goal

abbrev pub invariant-loop-byte : goal.invariant-loop-byte
invariant-loop-byte l = weight_from l.last l.gap l.rest ≡ weight_from 0 false l.initial.text

abbrev pub decreases-loop-byte : goal.decreases-loop-byte
decreases-loop-byte l = length l.rest
