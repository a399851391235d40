use Rattle.std.proofs.Common.{◌≡◌, length}
use Rattle.check_moving.specs.Expanded.{command_first}
use Rattle.check_moving.proofs.expanded.is_command_first.Given as goal

abbrev pub invariant-loop-byte : goal.invariant-loop-byte
invariant-loop-byte l = command_first l.rest ≡ command_first l.initial.text

abbrev pub decreases-loop-byte : goal.decreases-loop-byte
decreases-loop-byte l = length l.rest
