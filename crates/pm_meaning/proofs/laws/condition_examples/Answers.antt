use Rattle.std.proofs.Common.{refl}
use Rattle.pm_meaning.proofs.laws.condition_examples.Goals as goal

-- each by computing
pub returns-clause-leads : goal.returns-clause-leads
returns-clause-leads c = record {
  plain = refl;
  bang = refl;
  two_bangs = refl;
  head = refl;
  body = refl;
  both = refl;
  both_turned = refl;
  value = refl;
  small_letter = refl;
  last_name = refl;
  one_mark = refl;
  no_name = refl;
  dollar = refl;
  no_dollar = refl;
  mark = refl;
  no_mark = refl;
  by_no_flag = refl;
  by_b = refl;
  by_h_and_b = refl;
  by_name = refl;
  by_value = refl;
  by_unset = refl;
  for_program = refl;
  body_for_program = refl;
  mail_for_program = refl;
  value_for_program = refl;
}

pub returns-clause-tests : goal.returns-clause-tests
returns-clause-tests c = record {
  above_12 = refl;
  above_11 = refl;
  below_12 = refl;
  below_13 = refl;
  not_above_12 = refl;
  head_above_6 = refl;
  head_above_7 = refl;
  body_below_4 = refl;
  value_below_4 = refl;
  unset_below_1 = refl;
  decimal = refl;
  two_numbers = refl;
  thousands = refl;
  plus = refl;
  none_at_all = refl;
  weighed_size = refl;
  weighed_below = refl;
  weighed_inverted = refl;
  weighed_defect = refl;
  code_0 = refl;
  code_1 = refl;
  not_code_0 = refl;
  not_code_1 = refl;
  weighed_code = refl;
  expression = refl;
  word_start = refl;
  weighed_expression = refl;
  distinguished = refl;
  same_case = λ e area. refl;
  both_cases = λ e area. refl;
  same_case_counted = λ e area. refl;
  both_cases_counted = λ e area. refl;
  defect = refl;
  weighed_no_expression = refl;
  not_found = refl;
  inverted_not_found = refl;
  is_found = refl;
  inverted_found = refl;
  found_with_cut = refl;
  two_newlines = refl;
  newline_alone = refl;
  counted = refl;
  counted_once = refl;
  counted_none = refl;
  inverted_counted = refl;
  inverted_counted_none = refl;
}

pub returns-clause-judging : goal.returns-clause-judging
returns-clause-judging c = record {
  no_weight = refl;
  some_weight = refl;
  bad_weight = refl;
  exponent_below_zero = refl;
  weights = refl;
  weights_some = refl;
  weights_bad = refl;
  holds = refl;
  fails = refl;
  sets_match = refl;
  defect = refl;
  too_long = refl;
  no_match = refl;
  one_match = refl;
  two_matches = refl;
  success = refl;
  failure = refl;
  inverted_code = refl;
  twice_as_long = refl;
  half_as_long = refl;
  by_nothing = refl;
  upper_end = refl;
  below_upper_end = refl;
  lower_end = refl;
  above_lower_end = refl;
  score_1 = refl;
  score_0 = refl;
  score_below_0 = refl;
  no_weights = refl;
  score_is_kept = refl;
  no_score_is_kept = refl;
}
