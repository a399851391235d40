-- The lines of a recipe.
use Rattle.std.specs.Prelude.{List}
use Rattle.explain_notes.specs.declared.recipe.Line.{Line}

-- its colon line, and those of its conditions in order
pub record Lines : Type 0 where
  pub colon : Line
  pub conditions : List Line
