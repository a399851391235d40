use Rattle.std.proofs.Common.{List, ℕ, Option, ap, ◌∙◌}
use Rattle.pm_host.specs.declared.command.Command.{Command}
use Rattle.pm_journal.specs.Plan.{Plan}
use Rattle.pm_meaning.specs.Minds.{Mind, mind_of}
use Rattle.pm_meaning.specs.ProgramActions.{Tried, work_of, fed_piece, do_line, lock_first, program_with}
use Rattle.pm_meaning.specs.Ready.{ready_of}
use Rattle.pm_meaning.specs.Turns.{ActEnd}
use Rattle.pm_perform.specs.Errands.{task_of}
use Rattle.pm_perform.specs.Jobs.{run_at}
use Rattle.pm_perform.specs.Programs.{reading_of}
use Rattle.pm_perform.proofs.RefusalLemmas.{continues_on, refuses_on}
use Rattle.pm_perform.proofs.job.job_of.Goals as goal

pub returns-in_err-word-clause-job : goal.returns-in_err-word-clause-job
returns-in_err-word-clause-job c =
    let t = task_of c.args.task.now in
    let p = mind_of c.args.process.now in
    let reading = reading_of c.args.reading t.text in
    let r = ready_of c.args.ready.now p in
    let next : Option (List ℕ) → Plan ActEnd = λ word. do_line t word (work_of t.purpose t.flags (fed_piece t.flags p)) (reading.read r.outputs p) p in
    refuses_on (run_at t p) (lock_first t c.as_slice.result.now next p) (program_with t reading r) p c.in_err-word.field-0.0 _
    (ap (λ l. lock_first t l next p) c.as_slice.ensures.value) (c.in_err-word.ensures next) c.from_residual.ensures.1

pub returns-clause-job : goal.returns-clause-job
returns-clause-job c =
    let t = task_of c.args.task.now in
    let p = mind_of c.args.process.now in
    let reading = reading_of c.args.reading t.text in
    let r = ready_of c.args.ready.now p in
    let word = c.in_ok-word.word in
    let work : Command → Mind → Plan Tried = work_of t.purpose t.flags (fed_piece t.flags p) in
    let next : Option (List ℕ) → Plan ActEnd = λ w. do_line t w work (reading.read r.outputs p) p in
    let read = c.in_ok-line.ensures ∙ ap (λ l. reading.read l p) c.as_slice-2.ensures.value in
    let named = c.in_ok-word.ensures next ∙ ap (λ l. lock_first t l next p) c.as_slice.ensures.value in
    continues_on (run_at t p) (do_line t word work c.in_ok-line.line p) (program_with t reading r) p _ (ap (λ l. do_line t word work l p) read ∙ named) c.job_with.ensures.job
