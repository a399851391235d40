use Rattle.std.proofs.Common.{◌≡◌, vec_len}
use Rattle.run_cases.proofs.calls.reading.filled.Given as goal

abbrev pub invariant-loop-index : goal.invariant-loop-index
invariant-loop-index l = vec_len l.rcfile ≡ l.index
