use Rattle.std.proofs.Common.{refl, sym, ◌∙◌}
use Rattle.pm_journal.proofs.WantsMemory.{on_err, out_anywhere}
use Rattle.pm_meaning.specs.Minds.{mind_of}
use Rattle.pm_perform.specs.Errands.{task_of}
use Rattle.pm_meaning.proofs.Choices.{ok_map, err_map}
use Rattle.pm_perform.proofs.TaskLemmas.{was_told, wasnt_told, needs_no_line}
use Rattle.pm_perform.proofs.tasks.tell_first.Goals as goal

pub returns-then-not-lacks_lock-clause-told : goal.returns-then-not-lacks_lock-clause-told
returns-then-not-lacks_lock-clause-told g c = λ next. needs_no_line (task_of c.args.task.now) (mind_of c.args.run.now.process) next _ _ (sym c.lacks_lock.ensures ∙ c.if-not-lacks_lock.true)

pub returns-in_err-line-clause-memory : goal.returns-in_err-line-clause-memory
returns-in_err-line-clause-memory g c = λ next. on_err _ _ (out_anywhere _ _ _ _ refl)

pub returns-clause-told : goal.returns-clause-told
returns-clause-told g c =
    λ next. ok_map _ _ _ (λ u h. was_told (task_of c.args.task.now) (mind_of c.args.run.now.process) next c.in_ok-line.line _ _ _ _ (sym c.lacks_lock.ensures ∙ c.if-not-lacks_lock.false) c.in_ok-line.ensures h) c.tell.ensures.carries.0

pub returns-clause-memory : goal.returns-clause-memory
returns-clause-memory g c =
    λ next. err_map _ _ _ (λ h. wasnt_told (task_of c.args.task.now) (mind_of c.args.run.now.process) next c.in_ok-line.line _ _ _ _ (sym c.lacks_lock.ensures ∙ c.if-not-lacks_lock.false) c.in_ok-line.ensures h) c.tell.ensures.carries.1
