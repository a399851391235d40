-- The statements of an rcfile.
use Rattle.std.specs.Prelude.{ℕ, List, ◌++◌}
use Rattle.pm_recipe.specs.Tree.{Trees}
use Rattle.pm_recipe.specs.Item.{Item}
use Rattle.pm_recipe.specs.Spans.{start}
use Rattle.pm_recipe.specs.Spells.{Piece, IsCut, end_of, spans_of}
use Rattle.pm_recipe.specs.Says.{AllSay}
use Rattle.pm_recipe.specs.Ends.{no_blocks, blocks_behind, closings}
use Rattle.pm_recipe.specs.Lists.{Lists}

-- a cut of the text, what the spans of its pieces say, and the statements that the grammar reads there, where the blocks that
-- are open at the text's end end
pub record IsRc (bytes : List ℕ) (statements : Trees) : Type 0 where
  pub pieces : List Piece
  pub items : List Item
  pub cut : IsCut 1 start pieces bytes
  pub said : AllSay (spans_of pieces) items
  pub listed : Lists (items ++ closings (end_of start pieces).depth (blocks_behind no_blocks (spans_of pieces))) statements
