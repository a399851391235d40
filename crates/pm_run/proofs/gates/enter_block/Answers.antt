use Rattle.std.proofs.Common.{None, Some, ap, ◌∙◌}
use Rattle.pm_meaning.specs.Blocks.{enter_under, enter_block}
use Rattle.pm_meaning.specs.Minds.{mind_of}
use Rattle.pm_meaning.specs.Turns.{Enters, Clones}
use Rattle.pm_recipe.specs.View.{top_of}
use Rattle.pm_meaning.proofs.Choices.{carried}
use Rattle.pm_run.proofs.GateLemmas.{at_end, copies, enters}
use Rattle.pm_run.proofs.gates.enter_block.Goals as goal

pub returns-then-recipe : goal.returns-then-recipe
returns-then-recipe g c = record {
  carries = (
      let p = mind_of c.args.run.now.process in
      let top = top_of c.args.recipe.now in
      (at_end (enter_block top p) (Clones p) _ _ (copies top p c.if-recipe.true), tt));
}

pub returns-in-None : goal.returns-in-None
returns-in-None g c = record {
  carries = (
      let p = mind_of c.args.run.now.process in
      let top = top_of c.args.recipe.now in
      (at_end (enter_block top p) (Enters None p) _ _ (enters top None p c.if-recipe.false c.in-None.is), tt));
}

pub returns-in-Some : goal.returns-in-Some
returns-in-Some g c = record {
  carries = (
      let p = mind_of c.args.run.now.process in
      let top = top_of c.args.recipe.now in
      let same = ap (λ t. enter_under t p) c.as_slice.ensures ∙ enters top (Some c.in-Some.text) p c.if-recipe.false c.in-Some.is in
      carried (enter_under c.as_slice.result.now p) (enter_block top p) _ _ _ _ _ _ same c.enter_under.ensures.carries);
}
