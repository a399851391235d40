-- What is wrong in statements: the lines of their defects, and conditions that can't be read.
use Rattle.std.specs.Prelude.{◌≡◌, ℕ, List, [], ◌∷◌, ◌++◌, None}
use Rattle.pm_recipe.specs.declared.tree.Condition.{Condition}
use Rattle.pm_recipe.specs.Tree.{Trees, nil, cons, Tree, Recipe, Defect, Act, Block}
use Rattle.check_find.specs.Faults.{fault_of}

abbrev mutual
  -- the lines of the defects among statements
  pub defect_lines : Trees → List ℕ
  defect_lines nil = []
  defect_lines (cons tree trees) = defects_in tree ++ defect_lines trees

  -- the lines of the defects in a statement
  pub defects_in : Tree → List ℕ
  defects_in (Defect line text) = line ∷ []
  defects_in (Recipe top act) = defects_of act
  defects_in _ = []

  -- the lines of the defects in an action
  pub defects_of : Act → List ℕ
  defects_of (Block trees) = defect_lines trees
  defects_of _ = []

-- each of these conditions can be read
abbrev pub AllRead : List Condition → Type 0
AllRead [] = Unit {0}
AllRead (condition ∷ conditions) = (fault_of condition ≡ None) × AllRead conditions

abbrev mutual
  -- each condition of these statements can be read
  pub AreRead : Trees → Type 0
  AreRead nil = Unit {0}
  AreRead (cons tree trees) = IsRead tree × AreRead trees

  -- each condition of a statement
  pub IsRead : Tree → Type 0
  IsRead (Recipe top act) = AllRead top.conditions × ActIsRead act
  IsRead _ = Unit {0}

  -- each condition in an action
  pub ActIsRead : Act → Type 0
  ActIsRead (Block trees) = AreRead trees
  ActIsRead _ = Unit {0}
