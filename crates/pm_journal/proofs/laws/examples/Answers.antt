use Rattle.std.proofs.Common.{refl}
use Rattle.std.specs.Fmt.{digits}
use Rattle.pm_journal.proofs.laws.examples.Goals as goal

-- each by computing
pub returns-clause-texts : goal.returns-clause-texts
unfolding digits
returns-clause-texts c = record {
  couldnt_read = refl;
  shown = refl;
  too_many_rcfiles = refl;
  host_mismatched = refl;
  couldnt_write = refl;
  bytes_left = refl;
  no_free_name = refl;
  no_delivery = refl;
  skipped = refl;
  value_too_long = refl;
  unusable_name = refl;
  defective_condition = refl;
  couldnt_lock = refl;
  forcing_lock = refl;
  couldnt_unlock = refl;
  no_lock = refl;
  couldnt_start = refl;
  lost_contact = refl;
  output_too_long = refl;
  couldnt_chdir = refl;
  program_failure = refl;
  input_closed = refl;
  couldnt_write_out = refl;
  too_many_clones = refl;
  plain_name = refl;
  next_plain_name = refl;
  before_1970 = refl;
  maildir_name = refl;
  next_maildir_name = refl;
  maildir_parts = refl;
  slash_alone = refl;
  names = λ make all numbered. numbered.count;
  mh_name = refl;
  first_in_empty = refl;
  after_greatest = refl;
  nine_digits = refl;
  other_names = refl;
}

pub returns-clause-files : goal.returns-clause-files
returns-clause-files c = record {
  taken = refl;
  asks_the_rest = refl;
  asks_sync = refl;
  line_is_done = refl;
  done = refl;
  is_made_new = refl;
  raced = refl;
  is_folder = refl;
  not_looked = refl;
  not_made = refl;
  nothing_taken = refl;
  part_taken = refl;
  not_synced = refl;
  asks_cut = refl;
  cut_back = refl;
  not_cut = refl;
  new_file = refl;
  new_file_removed = refl;
  new_file_left = refl;
  reply_torn = refl;
  filed = refl;
  moving = refl;
  is_moved = refl;
  name_taken = refl;
  new_name_taken = refl;
  taken_and_left = refl;
  not_moved = refl;
  file_not_made = refl;
  file_removed = refl;
  file_left = refl;
  placed_where_moved = refl;
  placed_where_made = refl;
  torn_where_made = refl;
  read_whole = refl;
  read_missing = refl;
  read_folder = refl;
  read_failed = refl;
  reads_on = λ name so_far call next. next.bounded;
  read_long = λ so_far reply done. done.0;
}

pub returns-clause-locks_and_programs : goal.returns-clause-locks_and_programs
returns-clause-locks_and_programs c = record {
  held = refl;
  not_tried = refl;
  asks_age = refl;
  young = refl;
  old = refl;
  gone = refl;
  small = refl;
  large = refl;
  a_folder = refl;
  forced = refl;
  not_forced = refl;
  held_by_force = refl;
  force_15 = refl;
  force_16 = refl;
  never_by_force = refl;
  last_try = refl;
  sleeps = refl;
  reply_held = refl;
  reply_busy = refl;
  reply_failed = refl;
  all_fed = refl;
  closed = refl;
  not_fed = refl;
  output = refl;
  output_failed = refl;
  takes_on = λ so_far call next. next.wanted;
  taken_long = λ so_far end done. done.0;
  wants_output = refl;
  wants_none_after_failure = refl;
  code = refl;
  signal = refl;
  great_signal = refl;
  no_end = refl;
  broken = refl;
  output_broken = refl;
  output_long = refl;
}
