use Rattle.std.proofs.Common.{◌≡◌, ◌++◌, List, length}
use Rattle.pm_recipe.specs.Item.{Item}
use Rattle.pm_recipe.specs.Builder.{whole, built_of}
use Rattle.pm_recipe.specs.Ends.{ends}
use Rattle.pm_recipe.proofs.reader.finish.Given as goal

abbrev pub invariant-loop-open : goal.invariant-loop-open
invariant-loop-open l = record {
  levels : length l.builder.levels.items ≡ l.open;
  goes_on : (items : List Item) → whole (built_of l.builder) (ends l.open ++ items) ≡ whole (built_of l.fn.builder) (ends l.depth ++ items);
}

abbrev pub decreases-loop-open : goal.decreases-loop-open
decreases-loop-open l = l.open
