-- Trees as lists of nodes, so that proofs can tell them apart.
use Rattle.std.specs.Prelude.{ℕ, List, [], ◌∷◌, ◌≡◌, refl}
use Rattle.std.proofs.Common.{ap, ◌∙◌}
use Rattle.pm_recipe.specs.Tree.{Top, Trees, Tree, Act, nil, cons, Assign, Unset, Recipe, Defect, Mailbox, Pipe, Capture, Forward, WriteOut, Block}

-- a tree without its block
pub data Node : Type 0 where
  End : Node
  Assigns : List ℕ → List ℕ → Node
  Unsets : List ℕ → Node
  Fails : ℕ → List ℕ → Node
  Stores : Top → List ℕ → Node
  Pipes : Top → List ℕ → Node
  Captures : Top → List ℕ → List ℕ → Node
  Forwards : Top → List ℕ → Node
  Writes : Top → Node
  Opens : Top → Node

abbrev mutual
  -- the nodes of statements, before others
  pub nodes_onto : Trees → List Node → List Node
  nodes_onto nil rest = End ∷ rest
  nodes_onto (cons tree trees) rest = tree_onto tree (nodes_onto trees rest)

  -- the nodes of a statement, before others
  pub tree_onto : Tree → List Node → List Node
  tree_onto (Assign name value) rest = Assigns name value ∷ rest
  tree_onto (Unset name) rest = Unsets name ∷ rest
  tree_onto (Defect line text) rest = Fails line text ∷ rest
  tree_onto (Recipe top act) rest = act_onto act top rest

  -- the nodes of a recipe with this action, before others
  pub act_onto : Act → Top → List Node → List Node
  act_onto (Mailbox text) top rest = Stores top text ∷ rest
  act_onto (Pipe line) top rest = Pipes top line ∷ rest
  act_onto (Capture name line) top rest = Captures top name line ∷ rest
  act_onto (Forward text) top rest = Forwards top text ∷ rest
  act_onto WriteOut top rest = Writes top ∷ rest
  act_onto (Block trees) top rest = Opens top ∷ nodes_onto trees rest

-- a statement in front of the list on top
abbrev pub put : Tree → List Trees → List Trees
put tree [] = []
put tree (trees ∷ stack) = cons tree trees ∷ stack

-- the list on top becomes a block of the next
abbrev pub put_block : Top → List Trees → List Trees
put_block top [] = []
put_block top (trees ∷ stack) = put (Recipe top (Block trees)) stack

-- the lists that nodes write, read from the right
abbrev pub stack_of : List Node → List Trees
stack_of [] = []
stack_of (End ∷ nodes) = nil ∷ stack_of nodes
stack_of (Assigns name value ∷ nodes) = put (Assign name value) (stack_of nodes)
stack_of (Unsets name ∷ nodes) = put (Unset name) (stack_of nodes)
stack_of (Fails line text ∷ nodes) = put (Defect line text) (stack_of nodes)
stack_of (Stores top text ∷ nodes) = put (Recipe top (Mailbox text)) (stack_of nodes)
stack_of (Pipes top line ∷ nodes) = put (Recipe top (Pipe line)) (stack_of nodes)
stack_of (Captures top name line ∷ nodes) = put (Recipe top (Capture name line)) (stack_of nodes)
stack_of (Forwards top text ∷ nodes) = put (Recipe top (Forward text)) (stack_of nodes)
stack_of (Writes top ∷ nodes) = put (Recipe top WriteOut) (stack_of nodes)
stack_of (Opens top ∷ nodes) = put_block top (stack_of nodes)

-- the list on top
abbrev pub top_of : List Trees → Trees
top_of [] = nil
top_of (trees ∷ stack) = trees

-- the nodes of statements
abbrev pub nodes_of : Trees → List Node
nodes_of trees = nodes_onto trees []

-- the statements that nodes write
abbrev pub trees_from : List Node → Trees
trees_from nodes = top_of (stack_of nodes)

mutual
  stack-nodes : (trees : Trees) (rest : List Node) → stack_of (nodes_onto trees rest) ≡ trees ∷ stack_of rest
  stack-nodes nil rest = refl
  stack-nodes (cons tree trees) rest = stack-tree tree (nodes_onto trees rest) ∙ ap (put tree) (stack-nodes trees rest)

  stack-tree : (tree : Tree) (rest : List Node) → stack_of (tree_onto tree rest) ≡ put tree (stack_of rest)
  stack-tree (Assign name value) rest = refl
  stack-tree (Unset name) rest = refl
  stack-tree (Defect line text) rest = refl
  stack-tree (Recipe top act) rest = stack-act act top rest

  stack-act : (act : Act) (top : Top) (rest : List Node) → stack_of (act_onto act top rest) ≡ put (Recipe top act) (stack_of rest)
  stack-act (Mailbox text) top rest = refl
  stack-act (Pipe line) top rest = refl
  stack-act (Capture name line) top rest = refl
  stack-act (Forward text) top rest = refl
  stack-act WriteOut top rest = refl
  stack-act (Block trees) top rest = ap (put_block top) (stack-nodes trees rest)

-- the statements of their nodes are those statements
pub trees_from-nodes : (trees : Trees) → trees_from (nodes_of trees) ≡ trees
trees_from-nodes trees = ap top_of (stack-nodes trees [])
