use Rattle.std.proofs.Common.{◌≡◌, ◌+◌, sym, subst, take}
use Rattle.pm_recipe.specs.declared.tree.Statement.{Statement}
use Rattle.pm_recipe.specs.Tree.{nil, cons, ◌⧺◌}
use Rattle.pm_recipe.specs.View.{tree_of, trees_of}
use Rattle.pm_recipe.proofs.Append.{trees_of-more}
use Rattle.pm_recipe.proofs.tree.+copy.Goals as goal

pub Statements::copy-loop-statement-preserved : goal.Statements::copy-loop-statement-preserved
Statements::copy-loop-statement-preserved t c =
    let items = c.deref-statement-items.result.now in
    let i = c.loop-statement.statement-index in
    let P : Statement → Type 0 = λ x. trees_of (take i items) ⧺ cons (tree_of x) nil ≡ trees_of (take (i + 1) items) in
    rw (c.in_ok-push.ensures.ok, c.loop-statement.invariant, c.in_ok-copy_statement.ensures)
    (subst P (sym c.statement-item.is) (trees_of-more items i _ c.loop-statement-test.true))
