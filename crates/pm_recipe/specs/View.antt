-- The code's statements as a tree.
use Rattle.std.specs.Prelude.{List, [], ◌∷◌}
use Rattle.pm_recipe.specs.declared.tree.Statement.{Statement}
use Rattle.pm_recipe.specs.declared.tree.Statement.TheVariants as code
use Rattle.pm_recipe.specs.declared.tree.Recipe.{Recipe as CodeRecipe}
use Rattle.pm_recipe.specs.declared.tree.Action.{Action}
use Rattle.pm_recipe.specs.declared.tree.Action.TheVariants as act
use Rattle.pm_recipe.specs.Tree.{Top, Trees, Tree, Act, nil, cons, Assign, Unset, Recipe, Defect, Mailbox, Pipe, Capture, Forward, WriteOut, Block}

-- an action
abbrev pub act_of : Action → Act
act_of (act.Mailbox text) = Mailbox text
act_of (act.Pipe line) = Pipe line
act_of (act.Capture name line) = Capture name line
act_of (act.Forward text) = Forward text
act_of act.WriteOut = WriteOut
act_of (act.Block trees) = Block trees

-- a recipe without its action
abbrev pub top_of : CodeRecipe → Top
top_of recipe = record { flags = recipe.flags; lock = recipe.lock; conditions = recipe.conditions.items }

-- a statement
abbrev pub tree_of : Statement → Tree
tree_of (code.Assign name value) = Assign name value
tree_of (code.Unset name) = Unset name
tree_of (code.Recipe recipe) = Recipe (top_of recipe) (act_of recipe.action)
tree_of (code.Defect line text) = Defect line text

-- a list of statements
abbrev pub trees_of : List Statement → Trees
trees_of [] = nil
trees_of (statement ∷ statements) = cons (tree_of statement) (trees_of statements)
