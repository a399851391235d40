use Rattle.std.proofs.Common.{◌≡◌, take}
use Rattle.pm_recipe.specs.View.{trees_of}
use Rattle.pm_recipe.proofs.tree.copy_statements.Given as goal

abbrev pub invariant-loop-statement : goal.invariant-loop-statement
invariant-loop-statement l = trees_of l.copies.items ≡ trees_of (take l.statement-index l.statements)
