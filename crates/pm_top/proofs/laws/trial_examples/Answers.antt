use Rattle.std.proofs.Common.{refl}
use Rattle.std.specs.Fmt.{digits}
use Rattle.pm_top.proofs.laws.trial_examples.Goals as goal

-- each by computing
pub returns : goal.returns
unfolding digits
returns c = record {
  least = refl;
  most = refl;
  none = refl;
  too_many = refl;
  digits = refl;
  five_digits = refl;
  no_number = refl;
  empty = refl;
  other_option = refl;
  alone = refl;
  more = refl;
  first = refl;
  eleventh = refl;
  counted = refl;
  report = refl;
  bad_words = refl;
  too_long = refl;
  no_rcfile = refl;
  no_memory = refl;
  unread = refl;
  success = refl;
}
