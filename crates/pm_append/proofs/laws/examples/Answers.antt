use Rattle.std.proofs.Common.{refl}
use Rattle.pm_append.proofs.laws.examples.Goals as goal

-- each by computing
pub returns : goal.returns
returns c = record {
  two_parts = refl;
  new_file = refl;
  no_bytes = refl;
  log_line = refl;
  first_log_line = refl;
  directory = refl;
  raced = refl;
  no_look = refl;
  no_create = refl;
  no_part = refl;
  cut_back = refl;
  torn = refl;
  removed = refl;
  gone_by_then = refl;
  left_there = refl;
  not_stored = refl;
  not_stored_torn = refl;
  new_not_stored = refl;
  missing = refl;
  not_plain = refl;
  faulted = refl;
}
