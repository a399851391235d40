use Rattle.pm_recipe.proofs.Append.{trees_of-append}
use Rattle.pm_recipe.proofs.tree.Statements.push.Goals as goal

pub returns-clause-ok : goal.returns-clause-ok
returns-clause-ok c = rw (← c.self.view_is, c.in_ok-push.ensures.items) (trees_of-append _ _)
