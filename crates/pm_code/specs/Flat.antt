-- Flat code as contracts see it.
use Rattle.std.specs.Prelude.{ℕ, ◌+◌, List, [], ◌∷◌, ◌++◌, length, map}
use Rattle.pm_recipe.specs.Tree.{Top, Trees, nil, cons, Tree, Assign, Unset, Recipe, Defect, Act, Block}
use Rattle.pm_recipe.specs.View.{act_of, top_of}
use Rattle.pm_code.specs.declared.steps.Step.{Step}
use Rattle.pm_code.specs.declared.steps.Step.TheVariants as step

-- a step: a statement without a block, the beginning of a block that ends at a place, or the end of the block that
-- begins at a place
pub data Flat : Type 0 where
  Does : Tree → Flat
  Enters : Top → ℕ → Flat
  Leaves : ℕ → Flat

-- a step of code
abbrev pub flat_of : Step → Flat
flat_of (step.Assign name value) = Does (Assign name value)
flat_of (step.Unset name) = Does (Unset name)
flat_of (step.Defect line text) = Does (Defect line text)
flat_of (step.Plain recipe) = Does (Recipe (top_of recipe) (act_of recipe.action))
flat_of (step.Enter recipe end) = Enters (top_of recipe) end
flat_of (step.Leave enter) = Leaves enter

-- the steps of code, in their order
abbrev pub flats_of : List Step → List Flat
flats_of steps = map flat_of steps

abbrev mutual
  -- the code of statements from a place on
  pub written : ℕ → Trees → List Flat
  written at nil = []
  written at (cons tree trees) = written_one at tree ++ written (at + length (written_one at tree)) trees

  pub written_one : ℕ → Tree → List Flat
  written_one at (Recipe top act) = written_recipe at top act
  written_one at other = Does other ∷ []

  pub written_recipe : ℕ → Top → Act → List Flat
  written_recipe at top (Block trees) =
      Enters top (at + 1 + length (written (at + 1) trees)) ∷ written (at + 1) trees ++ Leaves at ∷ []
  written_recipe at top act = Does (Recipe top act) ∷ []
