use Rattle.std.proofs.Common.{rules}
use Rattle.pm_journal.specs.Plan.{Plan}
use Rattle.pm_journal.proofs.WantsMemory.{on_err}
use Rattle.pm_meaning.specs.Blocks.{enter_block}
use Rattle.pm_meaning.specs.Judging.{judge_first}
use Rattle.pm_meaning.specs.Minds.{Mind, mind_of}
use Rattle.pm_meaning.specs.Turns.{Turn}
use Rattle.pm_recipe.specs.View.{top_of}
use Rattle.pm_run.proofs.JudgeLemmas.{acts_on}
use Rattle.pm_run.proofs.gates.pass_gate.Goals as goal

pub returns-in_err-come_to : goal.returns-in_err-come_to
returns-in_err-come_to g c = record {
  carries = (
      let acts : Mind → Plan Turn = λ q. enter_block (top_of c.args.recipe.now) q in
      (search rules, on_err _ _ (c.in_err-come_to.ensures.memory acts)));
}

pub returns-then-not-branch : goal.returns-then-not-branch
returns-then-not-branch g c = record {
  carries = (
      let acts : Mind → Plan Turn = λ q. enter_block (top_of c.args.recipe.now) q in
      let comes = rw c.if-not-branch.true at c.in_ok-come_to.ensures.comes in
      (comes acts, tt));
}

pub returns : goal.returns
returns g c = record {
  carries = (
      let top = top_of c.args.recipe.now in
      let acts : Mind → Plan Turn = λ q. enter_block top q in
      let comes = rw c.if-not-branch.false at c.in_ok-come_to.ensures.comes in
      acts_on (judge_first top acts (mind_of c.args.run.now.process)) (acts (mind_of c.come_to.new.run.process)) _ _ _ _ _ _ _ _ (comes acts) c.enter_block.ensures.carries);
}
