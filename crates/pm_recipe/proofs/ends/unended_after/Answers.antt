use Rattle.pm_recipe.proofs.Ended.{closed}
use Rattle.pm_recipe.proofs.ends.unended_after.Goals as goal

pub returns-in-Close : goal.returns-in-Close
returns-in-Close c = λ blocks s. rw c.in-Close.is (closed c.args.unended c.args.situation.depth blocks s)
