use Rattle.std.proofs.Common.{refl}
use Rattle.std.specs.Str.{is_utf8, chars}
use lib.Utf8.{encode}
use Rattle.pm_start.proofs.laws.examples.Goals as goal

-- each by computing
pub returns : goal.returns
unfolding is_utf8 chars encode
returns c = record {
  signs = refl;
  empty_value = refl;
  no_name = refl;
  no_sign = refl;
  no_text = refl;
  name_no_text = refl;
  order = refl;
  logins = refl;
  blank_in_login = refl;
  empty_login = refl;
  unset_login = refl;
  first_login = refl;
}
