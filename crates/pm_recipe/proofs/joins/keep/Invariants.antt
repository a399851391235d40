use Rattle.std.proofs.Common.{◌≡◌, ◌++◌, drop}
use Rattle.pm_recipe.specs.declared.joins.Side.TheVariants.{Text}
use Rattle.pm_recipe.specs.Kept.{kept}
use Rattle.pm_recipe.proofs.joins.keep.Given as goal

abbrev pub invariant-loop-i : goal.invariant-loop-i
invariant-loop-i l = l.copy.items ++ kept l.indents l.side (drop l.i l.text) ≡ kept l.indents Text l.text
