use Rattle.std.proofs.Common.{◌≡◌, length}
use Rattle.check_fix.specs.Colons.{from_colon}
use Rattle.check_fix.proofs.colons.colon_in.Given as goal

abbrev pub invariant-loop-byte : goal.invariant-loop-byte
invariant-loop-byte l = from_colon l.rest ≡ from_colon l.initial.text

abbrev pub decreases-loop-byte : goal.decreases-loop-byte
decreases-loop-byte l = length l.rest
