-- A block is smaller than the list that it stands in.
use Rattle.std.specs.Prelude.{◌≤◌, List, [], ◌∷◌}
use Rattle.std.proofs.Common.{arith}
use denote.Param.Weighed.{most}
use Rattle.pm_recipe.specs.declared.tree.Statements.TheDeep.{deep-Statement, deep-Action}
use Rattle.pm_recipe.specs.declared.tree.Statement.{Statement}
use Rattle.pm_recipe.specs.declared.tree.Statement.TheVariants as code
use Rattle.pm_recipe.specs.declared.tree.Action.{Action}
use Rattle.pm_recipe.specs.declared.tree.Action.TheVariants as act
use Rattle.pm_recipe.specs.Tree.{trees_size, tree_size, act_size}
use Rattle.pm_recipe.specs.View.{trees_of, tree_of, act_of}

deep-act : (a : Action) → deep-Action a ≤ act_size (act_of a)
deep-act (act.Mailbox name) = omega arith
deep-act (act.Pipe line) = omega arith
deep-act (act.Capture name line) = omega arith
deep-act (act.Forward text) = omega arith
deep-act act.WriteOut = omega arith
deep-act (act.Block trees) = omega arith

deep-tree : (s : Statement) → deep-Statement s ≤ tree_size (tree_of s)
deep-tree (code.Assign name value) = omega arith
deep-tree (code.Unset name) = omega arith
deep-tree (code.Recipe recipe) = omega (arith, deep-act recipe.action)
deep-tree (code.Defect line text) = omega arith

-- each statement of a list is smaller than the list
pub most_le-trees : (statements : List Statement) → most deep-Statement statements ≤ trees_size (trees_of statements)
most_le-trees [] = omega arith
most_le-trees (s ∷ ss) = omega (arith, most_le-trees ss, deep-tree s)
