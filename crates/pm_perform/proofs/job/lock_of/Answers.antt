use Rattle.std.proofs.Common.{List, ℕ, Option, ap, ◌∙◌}
use Rattle.pm_journal.specs.Plan.{Plan}
use Rattle.pm_meaning.specs.Minds.{mind_of}
use Rattle.pm_meaning.specs.ProgramActions.{do_named, lock_first}
use Rattle.pm_meaning.specs.Turns.{ActEnd}
use Rattle.pm_perform.specs.Errands.{task_of}
use Rattle.pm_perform.specs.Jobs.{try_at}
use Rattle.pm_perform.proofs.RefusalLemmas.{continues_on, refuses_on}
use Rattle.pm_perform.proofs.job.lock_of.Goals as goal

pub returns-in_err-word-clause-lock : goal.returns-in_err-word-clause-lock
returns-in_err-word-clause-lock c = λ work.
    let t = task_of c.args.task.now in
    let p = mind_of c.args.process.now in
    let next : Option (List ℕ) → Plan ActEnd = λ word. do_named t word work p in
    refuses_on (try_at t work p) (lock_first t c.as_slice.result.now next p) (lock_first t c.args.ready.now.lock_outputs.items next p) p c.in_err-word.field-0.0 _
    (ap (λ l. lock_first t l next p) c.as_slice.ensures.value) (c.in_err-word.ensures next) c.from_residual.ensures.1

pub returns-clause-lock : goal.returns-clause-lock
returns-clause-lock c = λ work.
    let t = task_of c.args.task.now in
    let p = mind_of c.args.process.now in
    let next : Option (List ℕ) → Plan ActEnd = λ word. do_named t word work p in
    let named = c.in_ok-word.ensures next ∙ ap (λ l. lock_first t l next p) c.as_slice.ensures.value in
    continues_on (try_at t work p) (next c.in_ok-word.word) (lock_first t c.args.ready.now.lock_outputs.items next p) p _ named (c.free_lock.ensures.lock work)
