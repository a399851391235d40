use Rattle.std.proofs.Common.{◌≡◌, ◌++◌, take}
use Rattle.pm_recipe.specs.Tree.{trees_size, tree_size, act_size}
use Rattle.pm_recipe.specs.View.{tree_of, act_of, trees_of}
use Rattle.check_find.specs.Statements.{defect_lines}
use Rattle.check_find.proofs.defects.+gather.Given as goal

abbrev pub invariant-gather_lines-loop-statement : goal.invariant-gather_lines-loop-statement
invariant-gather_lines-loop-statement l = l.lines.items ≡ l.fn.lines.items ++ defect_lines (trees_of (take l.statement-index l.statement-items))

abbrev pub decreases-gather_lines : goal.decreases-gather_lines
decreases-gather_lines l = trees_size l.statements.now

abbrev pub decreases-gather_one : goal.decreases-gather_one
decreases-gather_one l = tree_size (tree_of l.statement.now)

abbrev pub decreases-gather_action : goal.decreases-gather_action
decreases-gather_action l = act_size (act_of l.action.now)
