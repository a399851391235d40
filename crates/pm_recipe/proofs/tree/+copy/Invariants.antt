use Rattle.std.proofs.Common.{◌≡◌, take}
use Rattle.pm_recipe.specs.View.{trees_of}
use Rattle.pm_recipe.proofs.tree.+copy.Given as goal

abbrev pub invariant-Statements::copy-loop-statement : goal.invariant-Statements::copy-loop-statement
invariant-Statements::copy-loop-statement l = l.copies ≡ trees_of (take l.statement-index l.statement-items)
