-- The statements of an rcfile, as contracts see them.
use Rattle.std.specs.Prelude.{ℕ, ◌+◌, List, Option}
use Rattle.pm_recipe.specs.declared.tree.Flags.{Flags}
use Rattle.pm_recipe.specs.declared.tree.Condition.{Condition}

-- what a recipe does before its action: its flags, its lock's text and its conditions
pub record Top : Type 0 where
  pub flags : Flags
  pub lock : Option (List ℕ)
  pub conditions : List Condition

mutual
  -- a list of statements
  pub data Trees : Type 0 where
    nil : Trees
    cons : Tree → Trees → Trees

  -- a statement: a name and a value, a name, a recipe, or a line and its text
  pub data Tree : Type 0 where
    Assign : List ℕ → List ℕ → Tree
    Unset : List ℕ → Tree
    Recipe : Top → Act → Tree
    Defect : ℕ → List ℕ → Tree

  -- an action
  pub data Act : Type 0 where
    Mailbox : List ℕ → Act
    Pipe : List ℕ → Act
    Capture : List ℕ → List ℕ → Act
    Forward : List ℕ → Act
    WriteOut : Act
    Block : Trees → Act

abbrev mutual
  -- how much a list of statements holds
  pub trees_size : Trees → ℕ
  trees_size nil = 0
  trees_size (cons tree trees) = tree_size tree + trees_size trees + 1

  -- how much a statement holds
  pub tree_size : Tree → ℕ
  tree_size (Recipe top act) = act_size act + 1
  tree_size _ = 0

  -- how much an action holds
  pub act_size : Act → ℕ
  act_size (Block trees) = trees_size trees + 1
  act_size _ = 0

-- one list of statements after another
infixr 40 ◌⧺◌
abbrev pub ◌⧺◌ : Trees → Trees → Trees
nil ⧺ after = after
(cons tree trees) ⧺ after = cons tree (trees ⧺ after)
