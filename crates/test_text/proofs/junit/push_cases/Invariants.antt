use Rattle.std.proofs.Common.{◌≡◌, ◌++◌, drop, flat_map}
use Rattle.test_text.specs.Junit.{case_of}
use Rattle.test_text.proofs.junit.push_cases.Given as goal

abbrev pub invariant-loop-report : goal.invariant-loop-report
invariant-loop-report l = l.text ++ flat_map case_of (drop l.report-index l.reports) ≡ l.fn.text ++ flat_map case_of l.reports
