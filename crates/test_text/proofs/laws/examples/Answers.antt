use Rattle.std.proofs.Common.{refl}
use Rattle.std.specs.Fmt.{digits}
use Rattle.test_text.specs.Bags.{is_over}
use Rattle.test_text.specs.Junit.{case_of, case_named, failure_in, failure_front, failure_end, message_in, line_in, expectation, head}
use Rattle.test_text.specs.Tap.{tap_test, tap_details, place_fields, outcome_fields}
use Rattle.test_text.proofs.laws.examples.Goals as goal

-- each by computing
pub returns : goal.returns
unfolding digits is_over case_of case_named failure_in failure_front failure_end message_in line_in expectation head tap_test tap_details place_fields outcome_fields
returns c = record {
  lists = record { order = refl; less = refl; more = refl; twice = refl; none = refl; left = refl };
  names = record { default = refl; in_home = refl; home_with_slash = refl; tilde = refl; absolute = refl; maildir = refl; mh = refl; program = refl; forward = refl; no_forward = refl; output = refl; mailbox = refl; shown = refl; shown_elsewhere = refl; several = refl; nowhere = refl };
  reports = record { ok = refl; escaped = refl; not_ok = refl; whole = refl; case_passed = refl; case_failed = refl; suite = refl };
}
