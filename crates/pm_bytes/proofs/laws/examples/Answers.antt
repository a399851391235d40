use Rattle.std.proofs.Common.{refl}
use lib.Utf8.{encode}
use Rattle.std.specs.Str.{is_utf8, chars}
use Rattle.pm_bytes.proofs.laws.examples.Goals as goal

-- each by computing
pub returns : goal.returns
unfolding encode is_utf8 chars
returns c = record {
  blanks = refl;
  spaces = refl;
  digits = refl;
  name_starts = refl;
  name_bytes = refl;
  capitals = refl;
  around_capitals = refl;
  made_small = refl;
  zero = refl;
  tens = refl;
  zeros_in_front = refl;
  most_digits = refl;
  too_many_digits = refl;
  no_digit = refl;
  letter = refl;
  blank = refl;
  sign = refl;
  unsigned = refl;
  plus = refl;
  minus = refl;
  minus_zero = refl;
  minus_most_digits = refl;
  two_signs = refl;
  sign_alone = refl;
  nothing = refl;
  name = refl;
  umlaut = refl;
  no_byte = refl;
  half_umlaut = refl;
  byte_255 = refl;
  byte_0 = refl;
  byte_1 = refl;
  all_of_ascii = refl;
  in_folder = refl;
  after_slash = refl;
  from_root = refl;
  working_folder = refl;
  dot_and_slash = refl;
  folder_above = refl;
  empty_name = refl;
}
