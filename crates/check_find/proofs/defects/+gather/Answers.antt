use Rattle.std.proofs.Common.{◌≡◌, ap, ◌∙◌, sym, subst, ◌<◌, arith, ◌++◌}
use Rattle.pm_recipe.specs.Tree.{trees_size, tree_size}
use Rattle.pm_recipe.specs.View.{tree_of, trees_of}
use Rattle.check_find.specs.Statements.{defects_in}
use Rattle.check_find.proofs.Lines.{lines-more, one-smaller}
use Rattle.check_find.proofs.defects.+gather.Goals as goal

pub gather_lines-gather_one-requires : goal.gather_lines-gather_one-requires
gather_lines-gather_one-requires t c =
    let items = c.as_slice-statement-items.result.now in
    let i = c.loop-statement.statement-index in
    let small : tree_size (tree_of c.statement-item.result) < trees_size (trees_of items) =
    subst (λ s. tree_size (tree_of s) < trees_size (trees_of items)) (sym c.statement-item.is) (one-smaller items i c.statement-item.result c.loop-statement-test.true) in
    let falls : tree_size (tree_of c.statement-item.result) < t = let e : trees_size c.args.statements.now ≡ t = c.decreases in omega (arith, small, e, ap trees_size c.as_slice-statement-items.ensures) in
    (falls, tt)

pub gather_lines-loop-statement-preserved : goal.gather_lines-loop-statement-preserved
gather_lines-loop-statement-preserved t c =
    let items = c.as_slice-statement-items.result.now in
    let i = c.loop-statement.statement-index in
    lines-more c.args.lines.now.items c.loop-statement.lines.items _ items i c.statement-item.result c.loop-statement-test.true c.loop-statement.invariant
    (c.in_ok-gather_one.ensures ∙ ap (λ s. c.loop-statement.lines.items ++ defects_in (tree_of s)) c.statement-item.is)
