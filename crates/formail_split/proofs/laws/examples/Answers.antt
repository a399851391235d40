use Rattle.std.proofs.Common.{refl, arith}
use Rattle.std.specs.Fmt.{digits}
use Rattle.pm_message.specs.Calendar.{day_at}
use Rattle.formail_edit.specs.Examples.{plain}
use Rattle.formail_split.specs.Written.{WriteMails}
use Rattle.formail_split.proofs.laws.examples.Goals as goal

-- no text is added
usual : WriteMails plain
usual = record {
  no_takes = refl;
  from_line = refl;
  escaped = refl;
  prefix = record { some = λ e. cc; one_line = refl; other = refl };
  texts = record { renames = λ k d less. absurd (omega (arith, less)); puts = λ k d less. absurd (omega (arith, less)) };
}

-- each by computing
pub returns : goal.returns
unfolding digits day_at
returns c = record {
  two = refl;
  empty_bodies = refl;
  none = refl;
  one = refl;
  inside_a_body = refl;
  other_case = refl;
  blank_line_is_not_empty = refl;
  after_an_empty_line = refl;
  without_line_in_front = refl;
  all = refl;
  second_alone = refl;
  first_two = refl;
  but_the_first = refl;
  more_than_there_are = refl;
  past_the_end = refl;
  at_most_none = refl;
  first_place = refl;
  last_place = refl;
  edited_part = refl;
  dated_part = refl;
  usual = usual;
  nothing_forged = refl;
  part_of_the_sign = refl;
  with_an_empty_prefix = refl;
  with_a_sign_for_prefix = refl;
  with_a_newline_in_the_prefix = refl;
  with_the_body_kept = refl;
  with_an_empty_line_in_a_field = refl;
  with_an_empty_line_in_a_name = refl;
  of_none = refl;
  both_right = refl;
  second_code = refl;
  first_code = refl;
  both_codes = refl;
  code_of_a_signal = refl;
  closed_early = refl;
  first_not_started = refl;
  second_not_started = refl;
  not_started_and_code = refl;
  code_and_not_started = refl;
  broken = refl;
}
