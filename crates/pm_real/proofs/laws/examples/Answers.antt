use Rattle.std.proofs.Common.{refl}
use Rattle.pm_real.proofs.laws.examples.Goals as goal

-- each by computing
pub returns : goal.returns
returns c = record {
  opened = refl;
  its_name = refl;
  other_name = refl;
  other_mode = refl;
  read_again = refl;
  none_open = refl;
  found = refl;
  found_target = refl;
  found_other = refl;
  found_read = refl;
  found_none = refl;
  first_bytes = refl;
  more_bytes = refl;
  bytes_read = refl;
  all_cut = refl;
  some_cut = refl;
  too_many = refl;
  longer = refl;
  nothing_added = refl;
  target = refl;
  target_open = refl;
  other_target = refl;
  no_target = refl;
  again = refl;
  twice = refl;
}
