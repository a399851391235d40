use Rattle.std.proofs.Common.{refl}
use lib.Utf8.{encode}
use Rattle.std.specs.Fmt.{digits}
use Rattle.std.specs.Str.{is_utf8, chars}
use Rattle.pm_meaning.proofs.laws.examples.Goals as goal

-- each by computing
pub returns-clause-chains : goal.returns-clause-chains
returns-clause-chains c = record {
  free = refl;
  with_A = refl;
  with_A_no_match = refl;
  with_a = refl;
  with_a_failed = refl;
  with_a_no_match = refl;
  with_E = refl;
  with_E_executed = refl;
  with_e = refl;
  with_e_succeeded = refl;
  at_the_start = refl;
  at_the_start_A = refl;
  matched = refl;
  not_matched = refl;
  failed = refl;
  base_stays = refl;
  base_stays_a = refl;
  passed_by = refl;
  success = refl;
}

pub returns-clause-destinations : goal.returns-clause-destinations
unfolding encode is_utf8 chars
returns-clause-destinations c = record {
  file = refl;
  maildir = refl;
  mh = refl;
  dot = refl;
  words = refl;
  no_words = refl;
  no_name = refl;
  byte_0 = refl;
  automatic = refl;
  of_maildir = refl;
  of_mh = refl;
  of_null = refl;
  of_none = refl;
  no_lock = refl;
  second_colon = refl;
  named = refl;
  appended = refl;
  first_arrows = refl;
  one_arrow = refl;
  to_lock = refl;
  nothing_to_lock = refl;
  named_for_program = refl;
  no_lock_for_program = refl;
  full = refl;
  full_from_root = refl;
  free = refl;
  lock_is_destination = refl;
  lock_is_held = refl;
  destination_is_held = refl;
  blamed_lock = refl;
  blamed_action = refl;
  first_rule = refl;
  rule = refl;
  fault = refl;
  no_fault = refl;
}

pub returns-clause-values : goal.returns-clause-values
returns-clause-values c = record {
  user = refl;
  nobody = refl;
  blank_login = refl;
  no_login = refl;
  no_home = refl;
  search = refl;
  zone = refl;
  no_zone = refl;
  place = refl;
  mailbox = refl;
  filter_place = refl;
  filter_mailbox = refl;
  programs = refl;
  files = refl;
}

pub returns-clause-assignments : goal.returns-clause-assignments
unfolding encode is_utf8 chars
returns-clause-assignments c = record {
  plain = refl;
  maildir = refl;
  included = refl;
  included_none = refl;
  switched = refl;
  switched_none = refl;
  same_host = refl;
  other_host = refl;
  lockfile = refl;
  lockfile_held = refl;
  no_lockfile = refl;
  log = refl;
  shift = refl;
  no_shift = refl;
  unset_plain = refl;
  unset_switchrc = refl;
  to_err = refl;
  to_file = refl;
  to_lock_file = refl;
}

pub returns-clause-programs : goal.returns-clause-programs
unfolding encode is_utf8 chars digits
returns-clause-programs c = record {
  plain_line = refl;
  shell_line = refl;
  other_metas = refl;
  shell = refl;
  other_shell = refl;
  command = refl;
  no_words = refl;
  byte_0 = refl;
  flags = refl;
  sendmail = refl;
  no_sendmail = refl;
  no_address = refl;
  code = refl;
  no_code = refl;
  lost_code = refl;
  heeded = refl;
  heeded_quietly = refl;
  success = refl;
  not_heeded = refl;
  left_input = refl;
  may_leave_input = refl;
  took_all = refl;
  not_started = refl;
  lost = refl;
  too_long = refl;
  quiet_code = refl;
  longest_mail = refl;
  longer_mail = refl;
  longest_value = refl;
  longer_value = refl;
  head = refl;
  body = refl;
  both = refl;
  all = refl;
  new_head = refl;
  new_body = refl;
  new_mail = refl;
  filter = refl;
  delivery = refl;
  last = refl;
  copy = refl;
  filtered = refl;
  output_captured = refl;
  stored = refl;
  copy_stored = refl;
  ends = refl;
  copy_goes_on = refl;
  filter_goes_on = refl;
  failure_goes_on = refl;
  captured = refl;
  not_captured = refl;
  block_copy = refl;
  block = refl;
  told_of_delivery = refl;
  no_log = refl;
  log_of_last = refl;
  log_of_none = refl;
  log_of_copies = refl;
  no_log_of_copies = refl;
}
