-- What stands between two places of flat code.
use Rattle.std.specs.Prelude.{◌≡◌, ◌+◌, ℕ, true, List, Some, slice_get}
use Rattle.pm_recipe.specs.Tree.{Top, Trees, nil, cons, Tree, Recipe, Block}
use Rattle.pm_code.specs.Flat.{Flat, Does, Enters, Leaves}
use Rattle.pm_code.specs.Ahead.{is_single}

-- this step stands at this place
abbrev pub StandsAt : List Flat → ℕ → Flat → Type 0
StandsAt steps place step = slice_get steps place ≡ Some step

-- from one place to another stand these statements: none from a place to itself; one without a block is one step; one
-- with a block is a beginning, the block's own statements, and an end at the place that the beginning names
pub data IsBetween (steps : List Flat) : ℕ → ℕ → Trees → Type 0 where
  Nothing : (at : ℕ) → IsBetween steps at at nil
  Single : (at end : ℕ) (tree : Tree) (trees : Trees) → StandsAt steps at (Does tree) → is_single tree ≡ true
      → IsBetween steps (at + 1) end trees → IsBetween steps at end (cons tree trees)
  Blocked : (at leave end : ℕ) (top : Top) (inner trees : Trees) → StandsAt steps at (Enters top leave)
      → IsBetween steps (at + 1) leave inner → StandsAt steps leave (Leaves at)
      → IsBetween steps (leave + 1) end trees → IsBetween steps at end (cons (Recipe top (Block inner)) trees)
