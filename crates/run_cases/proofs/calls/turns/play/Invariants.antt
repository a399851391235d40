use Rattle.std.proofs.Common.{◌≡◌, length}
use Rattle.run_cases.proofs.calls.turns.play.Given as goal

abbrev pub invariant-loop-second : goal.invariant-loop-second
invariant-loop-second l = length l.turns.writers ≡ 2
