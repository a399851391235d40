use Rattle.pm_recipe.proofs.OneRc.{one-cut}
use Rattle.pm_recipe.proofs.laws.one_cut.Goals as goal

pub returns : goal.returns
returns c = λ text pieces others d e. one-cut text pieces others d e
