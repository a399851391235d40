use Rattle.std.proofs.Common.{[], ◌∷◌, refl, inl, inr}
use Rattle.pm_regex.proofs.laws.match_examples.Goals as goal

-- each by computing
pub returns-clause-bytes : goal.returns-clause-bytes
returns-clause-bytes c = record {
  same = refl;
  other = refl;
  capital = refl;
  small = refl;
  distinguished = refl;
  no_letter = refl;
  no_letter_too = refl;
  letters = refl;
  other_cases = refl;
  no_other = refl;
  any = refl;
  any_byte = refl;
  any_newline = refl;
  start_takes_newline = refl;
  start_takes_no_letter = refl;
  end_takes_newline = refl;
  end_takes_no_letter = refl;
  in_words = refl;
  in_words_too = refl;
  blank_before_word = refl;
  minus_before_word = refl;
  letter_before_word = refl;
  capital_before_word = refl;
  digit_before_word = refl;
  underscore_before_word = refl;
  newline_after_word = refl;
  letter_after_word = refl;
  digit_after_word = refl;
  area_start = refl;
  area_end = refl;
  member = refl;
  last_of_range = refl;
  single_member = refl;
  no_member = refl;
  other_case_of_member = refl;
  folded_member = refl;
  folded_range = refl;
  not_member = refl;
  not_no_member = refl;
  not_folded_member = refl;
  not_newline = refl;
}

pub returns-clause-places : goal.returns-clause-places
returns-clause-places c = record {
  line_start = refl;
  in_line = refl;
  next_line_start = refl;
  after_last_newline = refl;
  line_end = refl;
  before_newline = refl;
  first_word = refl;
  second_word = refl;
  no_word = refl;
  last_word = refl;
  first_word_end = refl;
  word_at_front = refl;
  area_start = refl;
  no_area_start = refl;
  area_end = refl;
  no_area_end = refl;
  byte_passes = refl;
  any_passes = refl;
  after_match = refl;
  after_empty_match = refl;
}

pub returns-clause-expressions : goal.returns-clause-expressions
returns-clause-expressions c = record {
  empty = refl;
  both = (1, inr (97, refl, refl, refl), inr (98, refl, refl, refl));
  left = inl (inr (97, refl, refl, refl));
  right = inr (inr (98, refl, refl, refl));
  star_of_none = ([], refl);
  star_of_two = (1 ∷ 2 ∷ [], (inr (97, refl, refl, refl), (inr (97, refl, refl, refl), refl)));
  plus_of_one = (2, [], inr (97, refl, refl, refl), refl);
  plus_of_two = (1, 2 ∷ [], inr (97, refl, refl, refl), (inr (97, refl, refl, refl), refl));
  maybe_none = inl refl;
  maybe_one = inr (inr (97, refl, refl, refl));
}
