use Rattle.std.proofs.Common.{◌≡◌, ◌++◌, length}
use Rattle.check_fix.specs.Locks.{without_braces}
use Rattle.check_fix.proofs.locks.without_braces.Given as goal

abbrev pub invariant-loop-byte : goal.invariant-loop-byte
invariant-loop-byte l = l.plain.items ++ without_braces l.rest ≡ without_braces l.initial.text

abbrev pub decreases-loop-byte : goal.decreases-loop-byte
decreases-loop-byte l = length l.rest
