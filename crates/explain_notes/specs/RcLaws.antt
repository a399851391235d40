-- The lines of a step are those of the code's recipe there.
use Rattle.std.specs.Prelude.{◌≡◌, ◌≤◌, ℕ, List, map, drop, length, slice_get, Option, Some, None}
use Rattle.pm_code.specs.Flat.{Flat, Does, Enters, Leaves, written}
use Rattle.pm_recipe.specs.Colon.{flags_of, flags_part, lock_of}
use Rattle.pm_recipe.specs.Listed.{rc_of}
use Rattle.pm_recipe.specs.Refusal.{most_length}
use Rattle.pm_recipe.specs.Tree.{Top, Tree, Recipe}
use Rattle.pm_recipe.specs.Weights.{condition_of}
use Rattle.pm_recipe.specs.declared.tree.Condition.{Condition}
use Rattle.explain_notes.specs.RcLines.{Lines}
use Rattle.explain_notes.specs.Steps.{flat, lines_of, recipe_at}
use Rattle.explain_notes.specs.declared.recipe.Line.{Line}

-- a statement is this recipe, if it is one
abbrev pub tree_top : Tree → Option Top
tree_top (Recipe top act) = Some top
tree_top other = None

-- and so is a step
abbrev pub top_of : Flat → Option Top
top_of (Does tree) = tree_top tree
top_of (Enters top end) = Some top
top_of (Leaves enter) = None

-- the recipe of the code whose step stands at a place
abbrev pub top_at : ℕ → List Flat → Option Top
top_at place steps = flat (slice_get (map top_of steps) place)

-- the condition of a line, which stands after its star
abbrev pub condition_in : Line → Condition
condition_in line = condition_of (drop 1 line.text)

-- the colon line says the flags and the lock of the recipe, and the others its conditions
pub record AreLinesOf (lines : Lines) (top : Top) : Type 0 where
  pub flags : top.flags ≡ flags_of (flags_part lines.colon.text)
  pub lock : top.lock ≡ lock_of lines.colon.text
  pub conditions : top.conditions ≡ map condition_in lines.conditions

-- there are lines, and they are those of the recipe
abbrev pub HasLines : Option Lines → Top → Type 0
HasLines step top = (lines : Lines) × (step ≡ Some lines) × AreLinesOf lines top

-- in the code of an rcfile's text each recipe has its lines
abbrev pub RecipesHaveLines : Type 0
RecipesHaveLines = (text : List ℕ) (place : ℕ) (top : Top) → length text ≤ most_length → top_at place (written 0 (rc_of text)) ≡ Some top
    → HasLines (recipe_at place (lines_of text)) top
