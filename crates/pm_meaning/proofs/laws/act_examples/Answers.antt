use Rattle.std.specs.Prelude.{[], nat_lt, if◌then◌else◌}
use Rattle.std.proofs.Common.{refl, ap}
use lib.Utf8.{encode}
use Rattle.std.specs.Fmt.{digits}
use Rattle.std.specs.Str.{is_utf8, chars}
use Rattle.pm_meaning.proofs.laws.act_examples.Goals as goal

-- each by computing
pub returns-clause-locks : goal.returns-clause-locks
unfolding encode is_utf8 chars digits
returns-clause-locks c = record {
  asked = refl;
  got = refl;
  forced = refl;
  busy = refl;
  not_tried = refl;
  held_already = refl;
  no_name = refl;
  no_text = refl;
  given = refl;
  not_held = refl;
  gone = refl;
  is_left = refl;
  after_block = refl;
  global = refl;
  global_forced = refl;
  global_busy = refl;
}

pub returns-clause-deliveries : goal.returns-clause-deliveries
unfolding encode is_utf8 chars digits
returns-clause-deliveries c = record {
  mailbox_size = refl;
  null_size = refl;
  null = refl;
  appended = refl;
  torn = refl;
  undone = refl;
  raced = refl;
  is_folder = refl;
  placed = refl;
  placed_torn = refl;
  no_free_name = refl;
  not_placed = refl;
  prefix = refl;
  other_prefix = refl;
  stamp = refl;
  told = refl;
  nothing_told = refl;
  not_locked_told = refl;
  unwritten_told = refl;
  raced_told = refl;
  crowded_told = refl;
  unnamed_told = refl;
  delivered = refl;
  delivered_with_lock_left = refl;
  copy_done = refl;
  left_is_torn = refl;
  unwritten_is_undone = refl;
  raced_is_raced = refl;
  crowded_is_names_out = refl;
  unnamed_is_bad = refl;
  busy = refl;
  lock_failed = refl;
  is_fine = refl;
  is_not_fine = refl;
  is_not_locked = refl;
  lock_is_mailbox = refl;
  mailbox_is_lock = refl;
  no_mailbox = refl;
  bad_mailbox = refl;
  bad_lock = refl;
  no_name = refl;
}

pub returns-clause-conditions : goal.returns-clause-conditions
unfolding encode is_utf8 chars digits
returns-clause-conditions c = record {
  none = refl;
  both = refl;
  one = refl;
  after_one = refl;
  defect = refl;
  too_long = refl;
  expanded = λ go_on. refl;
  eight_times = refl;
  nine_times = refl;
  no_words = refl;
  unusable = refl;
  long_line = refl;
  acts = λ go_on. refl;
  passes = λ go_on. refl;
}

pub returns-clause-trials : goal.returns-clause-trials
unfolding encode is_utf8 chars digits
returns-clause-trials c = record {
  code = refl;
  not_started = refl;
  lost = refl;
  closed_input = refl;
  too_long = refl;
  overflow = refl;
  unwritten = refl;
  told = refl;
  not_locked_told = refl;
  delivered = refl;
  copy_done = refl;
  not_got_lock = refl;
  closed_failed = refl;
  not_started_failed = refl;
  lost_failed = refl;
  code_failed = refl;
  too_long_failed = refl;
  overflow_failed = refl;
  unwritten_failed = refl;
  no_words = refl;
  unusable = refl;
  long_line = refl;
  written = refl;
  half_written = refl;
  to_addresses = refl;
  to_output = refl;
  up_to_bar = refl;
  up_to_and = refl;
  up_to_less = refl;
  up_to_newline = refl;
  up_to_parenthesis = refl;
  quoted_name = refl;
  own_name = refl;
  shell_bytes = refl;
  backquote = refl;
  quiet_code = refl;
  fault_not_started = refl;
  fault_lost = refl;
  fault_too_long = refl;
  no_output = refl;
  short_output = refl;
  longest_output = λ output is. ap (λ count. if nat_lt 1048576 count then [] else output) is;
  longer_output = λ output is. ap (λ count. if nat_lt 1048576 count then [] else output) is;
  longest_text = λ mode text vars outputs. refl;
  longest_line = λ outputs text p. refl;
  longest_forward = λ outputs text p. refl;
  trap_without_words = refl;
  trap_unusable = refl;
  trap_too_long = refl;
  no_trap = refl;
}

pub returns-clause-telling : goal.returns-clause-telling
unfolding encode is_utf8 chars digits
returns-clause-telling c = record {
  long_subject = refl;
  first_subject = refl;
  no_subject = refl;
  capital_subject = refl;
  longer_name = refl;
  blank_in_name = refl;
  no_from_line = refl;
  shown_folder = refl;
  of_copy = refl;
  of_failed_copy = refl;
  of_no_copy = refl;
  of_no_delivery = refl;
  to_err = refl;
  to_null = refl;
  filter_without = refl;
  own_missing = refl;
  own_unreadable = refl;
  named_missing = refl;
  fell_off = refl;
  clone_16 = refl;
  clone_17 = refl;
}
