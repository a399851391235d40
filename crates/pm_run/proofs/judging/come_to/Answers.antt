use Rattle.std.proofs.Common.{refl, sym, ◌∙◌}
use Rattle.pm_journal.specs.Executed.{OutOfMemory}
use Rattle.pm_journal.specs.Plan.{Plan}
use Rattle.pm_journal.proofs.WantsMemory.{on_err, out_anywhere}
use Rattle.pm_meaning.specs.Judging.{judge_first}
use Rattle.pm_meaning.specs.Minds.{Mind, mind_of}
use Rattle.pm_meaning.specs.Turns.{Turn}
use Rattle.pm_recipe.specs.View.{top_of}
use Rattle.pm_run.proofs.JudgeLemmas.{not_admitted, judging_wants, comes_to_act, comes_to_none, hears_no_more, hears_conditions}
use Rattle.pm_run.proofs.judging.come_to.Goals as goal

pub returns-in_err-came_to-clause-memory : goal.returns-in_err-came_to-clause-memory
returns-in_err-came_to-clause-memory g c =
    let top = top_of c.args.recipe.now in
    let p = mind_of c.args.run.now.process in
    let wants : (acts : Mind → Plan Turn)
    → OutOfMemory (judge_first top acts p) c.args.run.now.journal c.args.run.now.journal (g.D.Asks.told c.args.run.now.outside) (g.D.Asks.told c.args.run.now.outside) = λ acts.
    out_anywhere _ _ _ _ refl in
    on_err _ _ wants

pub returns-then-not-admitted-clause-hears : goal.returns-then-not-admitted-clause-hears
returns-then-not-admitted-clause-hears g c =
    hears_no_more (top_of c.args.recipe.now) c.args.place (mind_of c.args.run.now.process) _ _ _ _ (c.admits-admitted.ensures, rw c.len-entries.ensures at c.in_ok-came_to.ensures) c.if-not-admitted.true

pub returns-then-not-admitted-clause-comes : goal.returns-then-not-admitted-clause-comes
returns-then-not-admitted-clause-comes g c = λ acts.
    not_admitted (top_of c.args.recipe.now) (mind_of c.args.run.now.process) acts (mind_of c.pass.new.process) _ _ (sym c.admits-admitted.ensures ∙ c.if-not-admitted.true) c.pass.ensures.mind

pub returns-in_err-conditions_hold-clause-memory : goal.returns-in_err-conditions_hold-clause-memory
returns-in_err-conditions_hold-clause-memory g c =
    let top = top_of c.args.recipe.now in
    let p = mind_of c.args.run.now.process in
    let wants : (acts : Mind → Plan Turn)
    → OutOfMemory (judge_first top acts p) c.args.run.now.journal c.conditions_hold.new.run.journal (g.D.Asks.told c.args.run.now.outside) (g.D.Asks.told c.conditions_hold.new.run.outside) = λ acts.
    judging_wants top p c.as_slice-conditions.result.now acts _ _ _ _ (sym c.admits-admitted.ensures ∙ c.if-not-admitted.false, c.as_slice-conditions.ensures.value) c.in_err-conditions_hold.ensures.carries.1 in
    on_err _ _ wants

pub returns-then-branch-clause-comes : goal.returns-then-branch-clause-comes
returns-then-branch-clause-comes g c = λ acts.
    comes_to_act (top_of c.args.recipe.now) (mind_of c.args.run.now.process) c.as_slice-conditions.result.now (mind_of c.conditions_hold.new.run.process) _ _ _ _ acts (mind_of c.execute.new.process)
    (sym c.admits-admitted.ensures ∙ c.if-not-admitted.false, c.as_slice-conditions.ensures.value) (rw c.if-branch.true at c.in_ok-conditions_hold.ensures.carries.0) c.execute.ensures.mind

pub returns-clause-comes : goal.returns-clause-comes
returns-clause-comes g c = λ acts.
    comes_to_none (top_of c.args.recipe.now) (mind_of c.args.run.now.process) c.as_slice-conditions.result.now (mind_of c.conditions_hold.new.run.process) _ _ _ _ acts (mind_of c.pass-2.new.process)
    (sym c.admits-admitted.ensures ∙ c.if-not-admitted.false, c.as_slice-conditions.ensures.value) (rw c.if-branch.false at c.in_ok-conditions_hold.ensures.carries.0) c.pass-2.ensures.mind

pub returns-then-branch-clause-hears : goal.returns-then-branch-clause-hears
returns-then-branch-clause-hears g c =
    hears_conditions (top_of c.args.recipe.now) c.args.place (mind_of c.args.run.now.process) _ _ _ c.as_slice-conditions.result.now _ _ _ _ (c.admits-admitted.ensures, rw c.len-entries.ensures at c.in_ok-came_to.ensures) c.if-not-admitted.false c.as_slice-conditions.ensures.value
    c.in_ok-conditions_hold.ensures.hears

pub returns-clause-hears : goal.returns-clause-hears
returns-clause-hears g c =
    hears_conditions (top_of c.args.recipe.now) c.args.place (mind_of c.args.run.now.process) _ _ _ c.as_slice-conditions.result.now _ _ _ _ (c.admits-admitted.ensures, rw c.len-entries.ensures at c.in_ok-came_to.ensures) c.if-not-admitted.false c.as_slice-conditions.ensures.value
    c.in_ok-conditions_hold.ensures.hears
