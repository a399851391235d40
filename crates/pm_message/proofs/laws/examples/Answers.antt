use Rattle.std.proofs.Common.{refl}
use Rattle.std.specs.Fmt.{digits}
use Rattle.pm_message.specs.Calendar.{day_at, days_of_years, days_of_months}
use Rattle.pm_message.proofs.laws.examples.Goals as goal

pub returns-clause-heads : goal.returns-clause-heads
returns-clause-heads c = record {
  three_lines = refl;
  first_empty_line = refl;
  no_field = refl;
  line_of_blanks = refl;
  no_last_newline = refl;
  no_bytes = refl;
  in_one_piece = refl;
}

pub returns-clause-fields : goal.returns-clause-fields
returns-clause-fields c = record {
  folded = refl;
  no_last_newline = refl;
  first_line_is_indented = refl;
  no_field = refl;
  no_bytes = refl;
  named = refl;
  named_by_signs = refl;
  all_of_names = refl;
  name_with_blank = refl;
  name_with_tab = refl;
  name_with_delete = refl;
  no_name = refl;
  no_colon = refl;
  from_line = refl;
  later_from_line = refl;
  tab_after_from = refl;
  from_field = refl;
  places = refl;
}

pub returns-clause-areas : goal.returns-clause-areas
returns-clause-areas c = record {
  head = refl;
  body = refl;
  both = refl;
  folded = refl;
  folded_and_indented = refl;
  folded_in_both = refl;
  folded_in_body = refl;
  no_empty_line = refl;
  no_last_newline = refl;
  no_field = refl;
  no_field_in_both = refl;
  no_head = refl;
}

pub returns-clause-pieces : goal.returns-clause-pieces
returns-clause-pieces c = record {
  escaped = refl;
  begins_a_mail = refl;
  no_newline = refl;
  one_newline = refl;
  two_newlines = refl;
  three_newlines = refl;
  no_field = refl;
  no_bytes = refl;
  raw = refl;
  head_alone = refl;
  body_alone = refl;
  both_as_they_are = refl;
  head_as_it_is = refl;
  body_as_it_is = refl;
}

pub returns-clause-from_lines : goal.returns-clause-from_lines
unfolding digits day_at
returns-clause-from_lines c = record {
  there_already = refl;
  missing = refl;
  quoted = refl;
  from_field = refl;
  small_letters = refl;
  new_sender = refl;
  new_date = refl;
  kept = refl;
  kept_mail = refl;
  mail_with_line = refl;
  added = refl;
  sender_added = refl;
  sender_replaced = refl;
  quoted_stays = refl;
  date_replaced = refl;
  sender_between_tabs = refl;
  sender_ends_line = refl;
  one_line = refl;
  date_added = refl;
  prepared = refl;
}

pub returns-clause-dates : goal.returns-clause-dates
unfolding digits day_at days_of_years days_of_months
returns-clause-dates c = record {
  first_second = refl;
  small_numbers = refl;
  last_second_of_a_day = refl;
  two_digits = refl;
  friday = refl;
  saturday = refl;
  sunday = refl;
  monday = refl;
  tuesday = refl;
  wednesday = refl;
  january = refl;
  february = refl;
  march = refl;
  april = refl;
  may = refl;
  june = refl;
  july = refl;
  august = refl;
  september = refl;
  october = refl;
  november = refl;
  december = refl;
  next_year = refl;
  leap_year = refl;
  leap_day = refl;
  leap_century = refl;
  other_century = refl;
  other_year = refl;
  first_day = refl;
  day_2004 = refl;
  before = refl;
  between = refl;
  past = refl;
}
