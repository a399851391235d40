use Rattle.std.proofs.Common.{◌≡◌, ◌++◌, drop}
use Rattle.test_text.specs.Tap.{tap_lines}
use Rattle.test_text.proofs.tap.push_tests.Given as goal

abbrev pub invariant-loop-index : goal.invariant-loop-index
invariant-loop-index l = l.text ++ tap_lines l.index (drop l.index l.reports) ≡ l.fn.text ++ tap_lines 0 l.reports
