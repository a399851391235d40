use Rattle.std.proofs.Common.{◌∙◌}
use Rattle.pm_recipe.proofs.Unjoined.{kept-unindented}
use Rattle.pm_recipe.proofs.joins.without_indents.Goals as goal

pub returns : goal.returns
returns c = c.from_vec.ensures ∙ c.in_ok-keep.ensures ∙ kept-unindented c.args.text.now
