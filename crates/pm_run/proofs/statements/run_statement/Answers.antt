use Rattle.std.proofs.Common.{refl, ap, rules}
use Rattle.pm_journal.specs.Plan.{Plan, Ends}
use Rattle.pm_recipe.specs.View.{act_of, top_of}
use Rattle.pm_code.specs.Flat.{flat_of}
use Rattle.pm_meaning.specs.Acting.{acting}
use Rattle.pm_meaning.specs.Judging.{judge_first}
use Rattle.pm_meaning.specs.Minds.{Mind, mind_of}
use Rattle.pm_meaning.specs.Turns.{Turn, GoesOn}
use Rattle.pm_meaning.proofs.Choices.{ok_map, err_map}
use Rattle.pm_journal.proofs.PlanLeads.{leads_to_end, leads_to_want}
use Rattle.pm_journal.proofs.WantsMemory.{on_err}
use Rattle.pm_run.proofs.MayLemmas.{judging_may, acting_may}
use Rattle.pm_run.proofs.WalkLemmas.{by_step, by_step_out, no_statement, plain_done, recipe_may_out, assign_may_out, unset_may_out, defect_may_out}
use Rattle.pm_run.proofs.statements.run_statement.Goals as goal

pub returns-in-Assign-clause-carries : goal.returns-in-Assign-clause-carries
returns-in-Assign-clause-carries g c =
    let h = rw (c.as_slice.ensures, c.as_slice-in-Assign.ensures) at c.assign_text.ensures.carries in
    (ok_map _ _ _ (λ end k. by_step c.args.step.now _ (mind_of c.args.run.now.process) _ _ _ _ _ c.in-Assign.is k) h.0, err_map _ _ _ (λ k. by_step_out c.args.step.now _ (mind_of c.args.run.now.process) _ _ _ _ c.in-Assign.is k) h.1)

pub returns-in-Unset-clause-carries : goal.returns-in-Unset-clause-carries
returns-in-Unset-clause-carries g c =
    let h = rw c.as_slice-in-Unset.ensures at c.unset_variable.ensures.carries in
    (ok_map _ _ _ (λ end k. by_step c.args.step.now _ (mind_of c.args.run.now.process) _ _ _ _ _ c.in-Unset.is k) h.0, err_map _ _ _ (λ k. by_step_out c.args.step.now _ (mind_of c.args.run.now.process) _ _ _ _ c.in-Unset.is k) h.1)

pub returns-in_err-come_to-in-Plain-clause-carries : goal.returns-in_err-come_to-in-Plain-clause-carries
returns-in_err-come_to-in-Plain-clause-carries g c =
    let recipe = c.in-Plain.recipe in
    let acts : Mind → Plan Turn = λ q. acting (top_of recipe) (act_of recipe.action) q in
    (search rules, on_err _ _ (by_step_out c.args.step.now _ (mind_of c.args.run.now.process) _ _ _ _ c.in-Plain.is (c.in_err-come_to-in-Plain.ensures.memory acts)))

pub returns-in_err-come_to-in-Plain-clause-sure : goal.returns-in_err-come_to-in-Plain-clause-sure
returns-in_err-come_to-in-Plain-clause-sure g c =
    let recipe = c.in-Plain.recipe in
    let p = mind_of c.args.run.now.process in
    let nothing : Mind → Plan Turn = λ q. Ends (GoesOn q) in
    on_err _ _ (recipe_may_out c.args.step.now recipe p c.args.run.now.journal c.come_to.new.run.journal c.in-Plain.is (judging_may (top_of recipe) p _ _ _ _ (c.in_err-come_to-in-Plain.ensures.memory nothing)))

pub returns-then-not-branch-clause-carries : goal.returns-then-not-branch-clause-carries
returns-then-not-branch-clause-carries g c =
    let recipe = c.in-Plain.recipe in
    let acts : Mind → Plan Turn = λ q. acting (top_of recipe) (act_of recipe.action) q in
    let comes = rw c.if-not-branch.true at c.in_ok-come_to-in-Plain.ensures.comes in
    (by_step c.args.step.now _ (mind_of c.args.run.now.process) _ _ _ _ _ c.in-Plain.is (comes acts), tt)

pub returns-in_err-ended-in-Plain-clause-carries : goal.returns-in_err-ended-in-Plain-clause-carries
returns-in_err-ended-in-Plain-clause-carries g c =
    let recipe = c.in-Plain.recipe in
    let p = mind_of c.args.run.now.process in
    let acts : Mind → Plan Turn = λ q. acting (top_of recipe) (act_of recipe.action) q in
    let comes = rw c.if-not-branch.false at c.in_ok-come_to-in-Plain.ensures.comes in
    let out = leads_to_want (judge_first (top_of recipe) acts p) (acts (mind_of c.come_to.new.run.process)) _ _ _ _ _ _ (comes acts) c.in_err-ended-in-Plain.ensures.carries.1 in
    (search rules, on_err _ _ (by_step_out c.args.step.now _ p _ _ _ _ c.in-Plain.is out))

pub returns-in_err-ended-in-Plain-clause-sure : goal.returns-in_err-ended-in-Plain-clause-sure
returns-in_err-ended-in-Plain-clause-sure g c =
    let recipe = c.in-Plain.recipe in
    let p = mind_of c.args.run.now.process in
    let nothing : Mind → Plan Turn = λ q. Ends (GoesOn q) in
    let comes = rw c.if-not-branch.false at c.in_ok-come_to-in-Plain.ensures.comes in
    on_err _ _ (recipe_may_out c.args.step.now recipe p c.args.run.now.journal c.act.new.run.journal c.in-Plain.is
    (acting_may (top_of recipe) p (mind_of c.come_to.new.run.process) _ _ _ _ _ (comes nothing) c.in_err-ended-in-Plain.ensures.sure))

pub returns-in_ok-ended-in-Plain-clause-carries : goal.returns-in_ok-ended-in-Plain-clause-carries
returns-in_ok-ended-in-Plain-clause-carries g c =
    let recipe = c.in-Plain.recipe in
    let p = mind_of c.args.run.now.process in
    let q = mind_of c.act.new.run.process in
    let acts : Mind → Plan Turn = λ q. acting (top_of recipe) (act_of recipe.action) q in
    let comes = rw c.if-not-branch.false at c.in_ok-come_to-in-Plain.ensures.comes in
    let done = leads_to_end (judge_first (top_of recipe) acts p) (acts (mind_of c.come_to.new.run.process)) _ _ _ _ _ _ _ (comes acts) c.in_ok-ended-in-Plain.ensures.carries.0 in
    (plain_done c.args.step.now _ c.in_ok-ended-in-Plain.ended c.turned_of.result p q _ _ _ _ c.in-Plain.is (c.turned_of.ensures q) done, tt)

pub returns-in-Defect-clause-carries : goal.returns-in-Defect-clause-carries
returns-in-Defect-clause-carries g c =
    let h = rw c.as_slice-in-Defect.ensures at (c.turned_by.ensures _ _ _ _ _ _ c.skip_line.ensures.carries) in
    (ok_map _ _ _ (λ end k. by_step c.args.step.now _ (mind_of c.args.run.now.process) _ _ _ _ _ c.in-Defect.is k) h.0, err_map _ _ _ (λ k. by_step_out c.args.step.now _ (mind_of c.args.run.now.process) _ _ _ _ c.in-Defect.is k) h.1)

pub returns-in-Enter-clause-carries : goal.returns-in-Enter-clause-carries
returns-in-Enter-clause-carries g c = (no_statement c.args.step.now _ (mind_of c.args.run.now.process) _ _ (ap flat_of c.in-Enter.is) refl, tt)

pub returns-in-Leave-clause-carries : goal.returns-in-Leave-clause-carries
returns-in-Leave-clause-carries g c = (no_statement c.args.step.now _ (mind_of c.args.run.now.process) _ _ (ap flat_of c.in-Leave.is) refl, tt)

pub returns-in-Assign-clause-sure : goal.returns-in-Assign-clause-sure
returns-in-Assign-clause-sure g c = on_err _ _ (assign_may_out c.args.step.now _ _ (mind_of c.args.run.now.process) c.args.run.now.journal c.assign_text.new.run.journal c.in-Assign.is)

pub returns-in-Unset-clause-sure : goal.returns-in-Unset-clause-sure
returns-in-Unset-clause-sure g c = on_err _ _ (unset_may_out c.args.step.now _ (mind_of c.args.run.now.process) c.args.run.now.journal c.unset_variable.new.run.journal c.in-Unset.is)

pub returns-in-Defect-clause-sure : goal.returns-in-Defect-clause-sure
returns-in-Defect-clause-sure g c = on_err _ _ (defect_may_out c.args.step.now _ _ (mind_of c.args.run.now.process) c.args.run.now.journal c.skip_line.new.run.journal c.in-Defect.is)
