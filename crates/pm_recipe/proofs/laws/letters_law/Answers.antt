use Rattle.std.proofs.Common.{refl}
use Rattle.pm_recipe.proofs.FlagLetters.{no-letter, no-flag}
use Rattle.pm_recipe.proofs.laws.letters_law.Goals as goal

pub returns : goal.returns
returns c = record {
  head = refl;
  body = refl;
  distinguish = refl;
  feed_head = refl;
  feed_body = refl;
  filter = refl;
  copy = refl;
  wait = refl;
  wait_quiet = refl;
  ignore = refl;
  raw = refl;
  and_chain = refl;
  and_ok = refl;
  or_else = refl;
  on_error = refl;
  others = λ byte x. no-letter byte x;
  letters = λ byte x. no-flag byte x;
}
