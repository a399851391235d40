use Rattle.std.proofs.Common.{◌≡◌, ◌+◌, length, vec_len}
use Rattle.run_cases.proofs.calls.area.filled.Given as goal

abbrev pub invariant-loop-index : goal.invariant-loop-index
invariant-loop-index l = vec_len l.area ≡ length l.first + l.index
