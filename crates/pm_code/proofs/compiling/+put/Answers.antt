use Rattle.std.proofs.Common.{◌≡◌, ap, ◌∙◌, sym, subst, ◌<◌, length, arith, ◌++◌}
use Rattle.std.proofs.lemmas.List.{length-map}
use Rattle.pm_recipe.specs.Tree.{trees_size, tree_size, Block}
use Rattle.pm_recipe.specs.View.{tree_of, trees_of, act_of, top_of}
use Rattle.pm_code.specs.Flat.{flat_of, flats_of, written_one, Leaves, written_recipe}
use Rattle.pm_code.proofs.Writing.{put_more, put_block, one_smaller}
use Rattle.pm_code.proofs.compiling.+put.Goals as goal

pub put_all-put_one-requires : goal.put_all-put_one-requires
put_all-put_one-requires t c =
    let items = c.as_slice-statement-items.result.now in
    let i = c.loop-statement.statement-index in
    let small : tree_size (tree_of c.statement-item.result) < trees_size (trees_of items) =
    subst (λ s. tree_size (tree_of s) < trees_size (trees_of items)) (sym c.statement-item.is) (one_smaller items i c.statement-item.result c.loop-statement-test.true) in
    let falls : tree_size (tree_of c.statement-item.result) < t = let e : trees_size c.args.statements.now ≡ t = c.decreases in omega (arith, small, e, ap trees_size c.as_slice-statement-items.ensures) in
    (falls, tt)

pub put_all-loop-statement-preserved : goal.put_all-loop-statement-preserved
put_all-loop-statement-preserved t c =
    let items = c.as_slice-statement-items.result.now in
    let i = c.loop-statement.statement-index in
    put_more _ (flats_of c.loop-statement.steps.items) _ items i (length c.args.steps.now.items) (length c.loop-statement.steps.items) c.statement-item.result c.loop-statement-test.true
    (sym (length-map c.args.steps.now.items flat_of)) (sym (length-map c.loop-statement.steps.items flat_of)) c.loop-statement.invariant
    (c.in_ok-put_one.ensures ∙ ap (λ s. flats_of c.loop-statement.steps.items ++ written_one (length c.loop-statement.steps.items) (tree_of s)) c.statement-item.is)

pub put_recipe-returns-in_ok-end_block-in-Block : goal.put_recipe-returns-in_ok-end_block-in-Block
put_recipe-returns-in_ok-end_block-in-Block t c =
    let enter = c.in_ok-enter-in-Block.enter in
    let old = c.args.steps.now.items in
    let begun = c.begin_block.new.steps.items in
    let whole = c.put_all.new.steps.items in
    let here = c.in_ok-enter-in-Block.ensures.place in
    let done = put_block (flats_of old) (flats_of begun) (flats_of whole) (flats_of c.end_block.new.steps.items) (top_of c.args.recipe.now) c.in-Block.statements enter (length begun) (length whole) (Leaves enter)
    (here ∙ sym (length-map old flat_of)) c.in_ok-enter-in-Block.ensures.held (sym (length-map begun flat_of)) c.in_ok-put_all-in-Block.ensures (sym (length-map whole flat_of)) c.in_ok-end_block-in-Block.ensures in
    done ∙ ap (λ n. flats_of old ++ written_recipe n (top_of c.args.recipe.now) (Block c.in-Block.statements)) here
    ∙ ap (λ a. flats_of old ++ written_recipe (length old) (top_of c.args.recipe.now) (act_of a)) (sym c.in-Block.is)
