use Rattle.pm_recipe.proofs.Digits.{digits-decimal}
use Rattle.pm_recipe.proofs.laws.digits_law.Goals as goal

pub returns : goal.returns
returns c = λ text. digits-decimal text
