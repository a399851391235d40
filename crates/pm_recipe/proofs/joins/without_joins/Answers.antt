use Rattle.std.proofs.Common.{◌∙◌}
use Rattle.pm_recipe.proofs.Unjoined.{kept-unjoined}
use Rattle.pm_recipe.proofs.joins.without_joins.Goals as goal

pub returns : goal.returns
returns c = c.from_vec.ensures ∙ c.in_ok-keep.ensures ∙ kept-unjoined c.args.text.now
