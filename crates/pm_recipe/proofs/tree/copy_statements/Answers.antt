use Rattle.std.proofs.Common.{◌≡◌, ◌+◌, sym, subst, take}
use Rattle.pm_recipe.specs.declared.tree.Statement.{Statement}
use Rattle.pm_recipe.specs.Tree.{nil, cons, ◌⧺◌}
use Rattle.pm_recipe.specs.View.{tree_of, trees_of}
use Rattle.pm_recipe.proofs.Append.{trees_of-more, copied-more}
use Rattle.pm_recipe.proofs.tree.copy_statements.Goals as goal

pub loop-statement-preserved : goal.loop-statement-preserved
loop-statement-preserved c =
    let items = c.args.statements.now in
    let i = c.loop-statement.statement-index in
    let P : Statement → Type 0 = λ x. trees_of (take i items) ⧺ cons (tree_of x) nil ≡ trees_of (take (i + 1) items) in
    copied-more c.loop-statement.copies.items _ _ c.statement-item.result (take i items) (take (i + 1) items) c.in_ok-push.ensures.items
    c.loop-statement.invariant c.in_ok-copy_statement.ensures
    (subst P (sym c.statement-item.is) (trees_of-more items i _ c.loop-statement-test.true))
