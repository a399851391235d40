-- What a span of an rcfile says.
use Rattle.std.specs.Prelude.{ℕ, List, Bool}
use Rattle.pm_recipe.specs.declared.building.Head.{Head}
use Rattle.pm_recipe.specs.declared.tree.Condition.{Condition}
use Rattle.pm_recipe.specs.Tree.{Tree, Act}

-- nothing; a recipe begins, with its colon line, and whether something on it isn't understood; a condition; an action
-- that isn't a block; a block begins; a brace too deep, on this line and with this text; a block ends; a statement that
-- isn't a recipe
pub data Item : Type 0 where
  Nothing : Item
  Begins : Head → Bool → Item
  Judges : Condition → Item
  Does : Act → Item
  Opens : Item
  Fails : ℕ → List ℕ → Item
  Closes : Item
  States : Tree → Item
