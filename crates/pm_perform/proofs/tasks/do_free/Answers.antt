use Rattle.std.proofs.Common.{rules}
use Rattle.pm_journal.proofs.PlanLeads.{leads_to_end, leads_to_want}
use Rattle.pm_journal.proofs.WantsMemory.{on_err}
use Rattle.pm_meaning.specs.Minds.{mind_of}
use Rattle.pm_meaning.specs.ProgramActions.{told_first, try_and_say, lacks_lock}
use Rattle.pm_perform.specs.Errands.{task_of}
use Rattle.pm_meaning.specs.Apart.{acted_with}
use Rattle.pm_meaning.proofs.Choices.{ok_map, err_map}
use Rattle.pm_journal.specs.LogText.{no_lock_line}
use Rattle.pm_journal.specs.Plan.{Ends, and_then}
use Rattle.pm_meaning.specs.Logging.{log}
use Rattle.pm_meaning.specs.Turns.{failed}
use Rattle.pm_meaning.specs.declared.acted.Cause.TheVariants as cause
use Rattle.pm_perform.proofs.CalmLemmas.{calm_if, calm_said, calm_out, calm_lead, calm_sure, sure_after}
use Rattle.pm_perform.proofs.tasks.do_free.Goals as goal

pub returns-in_err-tell_first-clause-carries : goal.returns-in_err-tell_first-clause-carries
returns-in_err-tell_first-clause-carries g c =
    λ work is. (search rules, on_err _ _ (c.in_err-tell_first.ensures.memory (try_and_say (task_of c.args.task.now) c.args.lock work (mind_of c.args.run.now.process))))

pub returns-clause-carries : goal.returns-clause-carries
returns-clause-carries g c =
    let t = task_of c.args.task.now in
    let p = mind_of c.args.run.now.process in
    let q = mind_of c.try_and_say.new.run.process in
    λ work is.
    let next = try_and_say t c.args.lock work p in
    let whole = told_first t p next in
    let leads = c.in_ok-tell_first.ensures.told next in
    let said = (rw c.tell_first.ensures.same at c.try_and_say.ensures.carries) work is in (
      ok_map _ _ _ (λ end h. leads_to_end whole next (acted_with end q) c.args.run.now.journal c.tell_first.new.run.journal c.try_and_say.new.run.journal _ _ _ leads h) said.0,
      err_map _ _ _ (λ h. leads_to_want whole next c.args.run.now.journal c.tell_first.new.run.journal c.try_and_say.new.run.journal _ _ _ leads h) said.1,
    )

pub returns-in_err-tell_first-clause-sure : goal.returns-in_err-tell_first-clause-sure
returns-in_err-tell_first-clause-sure g c =
    let t = task_of c.args.task.now in
    let p = mind_of c.args.run.now.process in
    let flags = c.args.task.now.flags in
    let whole = told_first t p (Ends (failed cause.NoWords p)) in
    let calm = calm_if flags (lacks_lock t) (and_then (log (no_lock_line t.text) p) (λ done. Ends (failed cause.NoWords p))) (Ends (failed cause.NoWords p)) (calm_said flags p (no_lock_line t.text) (failed cause.NoWords p)) tt in
    λ work is. on_err _ _ (calm_sure flags c.args.run.now.journal c.tell_first.new.run.journal (calm_out flags whole c.args.run.now.journal c.tell_first.new.run.journal _ _ calm (c.in_err-tell_first.ensures.memory (Ends (failed cause.NoWords p)))))

pub returns-clause-sure : goal.returns-clause-sure
returns-clause-sure g c =
    let t = task_of c.args.task.now in
    let p = mind_of c.args.run.now.process in
    let flags = c.args.task.now.flags in
    let whole = told_first t p (Ends (failed cause.NoWords p)) in
    let calm = calm_if flags (lacks_lock t) (and_then (log (no_lock_line t.text) p) (λ done. Ends (failed cause.NoWords p))) (Ends (failed cause.NoWords p)) (calm_said flags p (no_lock_line t.text) (failed cause.NoWords p)) tt in
    λ work is. err_map c.try_and_say.result _ _ (sure_after flags c.args.run.now.journal c.tell_first.new.run.journal c.try_and_say.new.run.journal (calm_lead flags whole (failed cause.NoWords p) c.args.run.now.journal c.tell_first.new.run.journal _ _ calm (c.in_ok-tell_first.ensures.told (Ends (failed cause.NoWords p))))) (c.try_and_say.ensures.sure work is)
