use Rattle.std.proofs.Common.{ap, ◌∙◌, ◌+◌}
use Rattle.pm_recipe.specs.Bytes.{begins_with}
use Rattle.pm_recipe.proofs.Cut.{range-to_end}
use Rattle.pm_recipe.proofs.places.newline_after.Goals as goal

pub returns : goal.returns
returns c = c.starts_with.ensures ∙ ap (begins_with 10) (range-to_end c.args.text.now (c.args.i + 1))
