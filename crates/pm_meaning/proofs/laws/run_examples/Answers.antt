use Rattle.std.proofs.Common.{refl}
use Rattle.std.specs.Fmt.{digits}
use Rattle.pm_meaning.proofs.laws.run_examples.Goals as goal

-- each by computing
pub returns-clause-statuses : goal.returns-clause-statuses
unfolding digits
returns-clause-statuses c = record {
  success = refl;
  usage = refl;
  data_error = refl;
  no_input = refl;
  system_error = refl;
  cannot_create = refl;
  input_output = refl;
  temporary_failure = refl;
  delivered = refl;
  fell_off = refl;
  fell_off_softly = refl;
  no_rcfile = refl;
  other_host = refl;
  plain = refl;
  softly = refl;
  said_delivered = refl;
  said_otherwise = refl;
  exitcode = refl;
  exitcode_255 = refl;
  exitcode_256 = refl;
  exitcode_0 = refl;
  exitcode_and_trap = refl;
  empty_and_trap = refl;
  empty_alone = refl;
  without_rc = refl;
  told = refl;
  stays = refl;
  trapped = refl;
  no_trap = refl;
  no_trap_in_clones = refl;
  no_trap_without_rc = refl;
}

pub returns-clause-rcfiles : goal.returns-clause-rcfiles
returns-clause-rcfiles c = record {
  own = refl;
  own_may_be_missing = refl;
  two = refl;
  at_home = refl;
  from_root = refl;
  of_filter = refl;
  here = refl;
  second_here = refl;
  elsewhere = refl;
  maildir_was_set = refl;
  word = refl;
  word_includerc = refl;
  word_switchrc = refl;
  word_host = refl;
  rcfile_256 = refl;
  rcfile_257 = refl;
  none_read = refl;
  none_left = refl;
  next_of_other_host = refl;
  statements = refl;
  all_locks = refl;
  locks_of_file = refl;
  after_file = refl;
  in_clone = refl;
  both = refl;
  same = refl;
  no_default = refl;
  no_mailbox = refl;
}
