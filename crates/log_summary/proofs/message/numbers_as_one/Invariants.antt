use Rattle.std.proofs.Common.{◌≡◌, ◌++◌, length}
use Rattle.log_summary.specs.Messages.{numbers_as_one}
use Rattle.log_summary.proofs.message.numbers_as_one.Given as goal

-- what is written, and what the rest gives
abbrev pub invariant-loop-byte : goal.invariant-loop-byte
invariant-loop-byte l = l.all.items ++ numbers_as_one l.rest ≡ numbers_as_one l.initial.text

abbrev pub decreases-loop-byte : goal.decreases-loop-byte
decreases-loop-byte l = length l.rest
