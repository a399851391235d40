use Rattle.std.proofs.Common.{refl}
use Rattle.pm_top.proofs.laws.word_examples.Goals as goal

-- each by computing
pub returns : goal.returns
returns c = record {
  nothing = refl;
  rcfiles = refl;
  first_equals = refl;
  minus = refl;
  no_name = refl;
  digit_in_front = refl;
  empty_word = refl;
  byte_0 = refl;
  softly = refl;
  group = refl;
  other_letter = refl;
  sender = refl;
  sender_after = refl;
  date = refl;
  date_after = refl;
  last_sender = refl;
  no_sender = refl;
  empty_sender = refl;
  sender_with_blank = refl;
  arguments = refl;
  no_argument = refl;
  dashes = refl;
  filter = refl;
  filter_sender = refl;
  filter_arguments = refl;
  late_filter = refl;
  no_rcfile = refl;
}
