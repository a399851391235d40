use Rattle.std.proofs.Common.{◌≡◌, ◌++◌, drop, map, string_bytes}
use Rattle.explain_host.proofs.program.words_of.Given as goal

abbrev pub invariant-loop-arg : goal.invariant-loop-arg
invariant-loop-arg l = map string_bytes l.words.items ++ drop l.arg-index l.args ≡ l.args
