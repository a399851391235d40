use Rattle.std.proofs.Common.{refl}
use lib.Utf8.{encode}
use Rattle.std.specs.Str.{is_utf8, chars}
use Rattle.pm_vars.proofs.laws.examples.Goals as goal

-- each by computing
pub returns : goal.returns
unfolding encode is_utf8 chars
returns c = record {
  a_value = refl;
  an_empty_value = refl;
  no_value = refl;
  another_case = refl;
  set_again = refl;
  set_new = refl;
  set_empty = refl;
  unset_one = refl;
  unset_empty = refl;
  unset_none = refl;
  argument_0 = refl;
  argument_1 = refl;
  argument_2 = refl;
  argument_3 = refl;
  exported = refl;
  exported_empty = refl;
  exported_lines = refl;
  byte_0_in_value = refl;
  byte_0_in_name = refl;
  no_utf8_in_value = refl;
  no_utf8_in_name = refl;
  pair = refl;
}
