use Rattle.std.proofs.Common.{refl, rules}
use Rattle.pm_journal.proofs.WantsMemory.{on_err, out_anywhere}
use Rattle.pm_meaning.specs.Delivering.{say_each}
use Rattle.pm_meaning.specs.Minds.{mind_of}
use Rattle.pm_meaning.specs.ProgramActions.{after_trial, trial_lines}
use Rattle.pm_perform.specs.Errands.{task_of, trying_of}
use Rattle.pm_meaning.specs.Apart.{acted_with}
use Rattle.pm_meaning.proofs.Choices.{ok_map, err_map}
use Rattle.pm_meaning.proofs.Choices.{carried}
use Rattle.pm_perform.proofs.TaskLemmas.{trial_then, trial_then_out, trial_out, said_after_trial}
use Rattle.pm_perform.proofs.CalmLemmas.{calm_none, calm_out, calm_each}
use Rattle.pm_perform.proofs.SureLemmas.{errand_sure, errand_quiet, sure_told, told_some, copy_some, lines_told, err_both}
use Rattle.pm_perform.proofs.tasks.try_and_say.Goals as goal

pub returns-in_err-trial-clause-carries : goal.returns-in_err-trial-clause-carries
returns-in_err-trial-clause-carries g c =
    let p = mind_of c.args.run.now.process in
    λ work is. (search rules, on_err _ _ (trial_out (task_of c.args.task.now) c.args.lock work p _ _ _ _ (c.in_err-trial.ensures.carries work is).1))

pub returns-in_err-lines-clause-carries : goal.returns-in_err-lines-clause-carries
returns-in_err-lines-clause-carries g c =
    let p = mind_of c.args.run.now.process in
    let done = trying_of c.in_ok-trial.trial (mind_of c.try_under.new.run.process) in
    λ work is. (search rules, on_err _ _ (trial_then_out (task_of c.args.task.now) c.args.lock work p done _ c.try_under.new.run.journal _ _ _ _ (c.in_ok-trial.ensures.carries work is).0 (out_anywhere _ _ _ _ refl)))

pub returns-in_err-push_copy-clause-carries : goal.returns-in_err-push_copy-clause-carries
returns-in_err-push_copy-clause-carries g c =
    let p = mind_of c.args.run.now.process in
    let done = trying_of c.in_ok-trial.trial (mind_of c.try_under.new.run.process) in
    λ work is. (search rules, on_err _ _ (trial_then_out (task_of c.args.task.now) c.args.lock work p done _ c.try_under.new.run.journal _ _ _ _ (c.in_ok-trial.ensures.carries work is).0 (out_anywhere _ _ _ _ refl)))

pub returns-clause-carries : goal.returns-clause-carries
returns-clause-carries g c =
    let t = task_of c.args.task.now in
    let p = mind_of c.args.run.now.process in
    let m = mind_of c.try_under.new.run.process in
    let q = mind_of c.settle.new.process in
    let done = trying_of c.in_ok-trial.trial m in
    let said =
    carried (say_each q c.push_copy.new.lines.items (acted_with c.acted_by-acted.result q)) (after_trial t done) _ _ _ _ _ _ (said_after_trial t c.in_ok-trial.trial m q c.in_ok-lines.lines.items _ _ _ c.in_ok-push_copy.ensures.lines c.in_ok-lines.ensures.lines (search rules) c.settle.ensures.mind c.acted_by-acted.ensures) c.say_each.ensures.carries in
    λ work is. (
      ok_map _ _ _ (λ end h. trial_then t c.args.lock work p done (acted_with end (mind_of c.say_each.new.run.process)) c.args.run.now.journal c.try_under.new.run.journal c.say_each.new.run.journal _ _ _ (c.in_ok-trial.ensures.carries work is).0 h) said.0,
      err_map _ _ _ (λ h. trial_then_out t c.args.lock work p done c.args.run.now.journal c.try_under.new.run.journal c.say_each.new.run.journal _ _ _ (c.in_ok-trial.ensures.carries work is).0 h) said.1,
    )

pub returns-in_err-trial-clause-sure : goal.returns-in_err-trial-clause-sure
returns-in_err-trial-clause-sure g c = λ work is.
    on_err _ _ (errand_sure c.args.task.now.flags c.args.errand work c.args.lock (mind_of c.args.run.now.process) c.args.run.now.journal c.try_under.new.run.journal _ _ is c.in_err-trial.ensures.sure (c.in_err-trial.ensures.carries work is).1)

pub returns-in_err-lines-clause-sure : goal.returns-in_err-lines-clause-sure
returns-in_err-lines-clause-sure g c =
    let flags = c.args.task.now.flags in
    let done = trying_of c.in_ok-trial.trial (mind_of c.try_under.new.run.process) in
    let x = c.args.run.now.journal in
    let y = c.try_under.new.run.journal in
    λ work is.
    let tried = (c.in_ok-trial.ensures.carries work is).0 in
    let quiet = errand_quiet flags c.args.errand work c.args.task.now.text.now c.args.lock (mind_of c.args.run.now.process) tried.more done is tried.plays in
    let first = trial_lines flags c.args.task.now.text.now c.in_ok-trial.trial in
    on_err _ _ (sure_told flags first x y y tried.more tried.entries quiet (calm_none flags y y refl) (λ final. told_some first c.in_err-lines.ensures.sure))

pub returns-in_err-push_copy-clause-sure : goal.returns-in_err-push_copy-clause-sure
returns-in_err-push_copy-clause-sure g c =
    let flags = c.args.task.now.flags in
    let done = trying_of c.in_ok-trial.trial (mind_of c.try_under.new.run.process) in
    let x = c.args.run.now.journal in
    let y = c.try_under.new.run.journal in
    λ work is.
    let tried = (c.in_ok-trial.ensures.carries work is).0 in
    let quiet = errand_quiet flags c.args.errand work c.args.task.now.text.now c.args.lock (mind_of c.args.run.now.process) tried.more done is tried.plays in
    let first = trial_lines flags c.args.task.now.text.now c.in_ok-trial.trial in
    on_err _ _ (sure_told flags first x y y tried.more tried.entries quiet (calm_none flags y y refl) (copy_some flags first c.in_err-push_copy.ensures.sure))

pub returns-clause-sure : goal.returns-clause-sure
returns-clause-sure g c =
    let flags = c.args.task.now.flags in
    let done = trying_of c.in_ok-trial.trial (mind_of c.try_under.new.run.process) in
    let x = c.args.run.now.journal in
    let y = c.try_under.new.run.journal in
    λ work is.
    let tried = (c.in_ok-trial.ensures.carries work is).0 in
    let quiet = errand_quiet flags c.args.errand work c.args.task.now.text.now c.args.lock (mind_of c.args.run.now.process) tried.more done is tried.plays in
    let first = trial_lines flags c.args.task.now.text.now c.in_ok-trial.trial in
    let q = mind_of c.settle.new.process in
    let all = c.push_copy.new.lines.items in
    let z = c.say_each.new.run.journal in
    err_both c.say_each.result _ _ _ (λ some out. sure_told flags first x y z tried.more tried.entries quiet (calm_out flags (say_each q all (acted_with c.acted_by-acted.result q)) y z _ _ (calm_each flags q all (acted_with c.acted_by-acted.result q)) out)
    (lines_told flags _ q all c.in_ok-lines.lines.items first c.in_ok-push_copy.ensures.lines c.in_ok-lines.ensures.lines some)) c.say_each.ensures.sure c.say_each.ensures.carries.1
