use Rattle.pm_recipe.proofs.Ended.{opened}
use Rattle.pm_recipe.proofs.ends.opened.Goals as goal

pub returns-then-depth-gt0 : goal.returns-then-depth-gt0
returns-then-depth-gt0 c = λ blocks s. opened c.args.unended c.args.depth blocks s c.if-depth-gt0.true
