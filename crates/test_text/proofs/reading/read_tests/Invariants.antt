use Rattle.std.proofs.Common.{◌≡◌}
use Rattle.test_text.specs.Readings.{read_from, read_tests}
use Rattle.test_text.proofs.reading.read_tests.Given as goal

abbrev pub invariant-loop-line : goal.invariant-loop-line
invariant-loop-line l = read_from l.number l.before l.line-iterator ≡ read_tests l.fn.bytes
