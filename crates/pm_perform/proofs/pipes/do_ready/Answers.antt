use Rattle.std.proofs.Common.{refl, rules}
use Rattle.pm_journal.specs.Plan.{Plan}
use Rattle.pm_journal.proofs.WantsMemory.{on_err, out_anywhere}
use Rattle.pm_meaning.specs.Minds.{Mind, mind_of}
use Rattle.pm_meaning.specs.ProgramActions.{Tried, work_of, fed_piece, program_with}
use Rattle.pm_meaning.specs.Ready.{ready_of}
use Rattle.pm_meaning.proofs.Choices.{carried}
use Rattle.pm_perform.specs.Errands.{task_of}
use Rattle.pm_perform.specs.Jobs.{try_at}
use Rattle.pm_perform.specs.Programs.{reading_of}
use Rattle.pm_perform.proofs.CalmLemmas.{sure_none}
use Rattle.pm_perform.proofs.pipes.do_ready.Goals as goal

pub returns-in_err-errand-in-Ok-clause-carries : goal.returns-in_err-errand-in-Ok-clause-carries
returns-in_err-errand-in-Ok-clause-carries g c = (search rules, on_err _ _ (out_anywhere _ _ _ _ refl))

pub returns-in_ok-errand-in-Ok-clause-carries : goal.returns-in_ok-errand-in-Ok-clause-carries
returns-in_ok-errand-in-Ok-clause-carries g c =
    let t = task_of c.args.task.now in
    let p = mind_of c.args.run.now.process in
    let reading = reading_of c.args.reading t.text in
    let work : Mind → Plan Tried = work_of t.purpose t.flags (fed_piece t.flags p) c.in-Ok.field-0.command in
    let known = rw c.in-Ok.is at c.job_of.ensures.job in
    carried (try_at t work p c.in-Ok.field-0.lock) (program_with t reading (ready_of c.args.ready.now p)) _ _ _ _ _ _ known (c.do_free.ensures.carries work c.in_ok-errand-in-Ok.ensures)

pub returns-in-Err-clause-carries : goal.returns-in-Err-clause-carries
returns-in-Err-clause-carries g c =
    let t = task_of c.args.task.now in
    let p = mind_of c.args.run.now.process in
    c.tell_refusal.ensures.carries (program_with t (reading_of c.args.reading t.text) (ready_of c.args.ready.now p)) (rw c.in-Err.is at c.job_of.ensures.job)

pub returns-in_err-errand-in-Ok-clause-sure : goal.returns-in_err-errand-in-Ok-clause-sure
returns-in_err-errand-in-Ok-clause-sure g c = on_err _ _ (sure_none c.args.task.now.flags c.args.run.now.journal c.args.run.now.journal refl)

pub returns-in_ok-errand-in-Ok-clause-sure : goal.returns-in_ok-errand-in-Ok-clause-sure
returns-in_ok-errand-in-Ok-clause-sure g c =
    let t = task_of c.args.task.now in
    let p = mind_of c.args.run.now.process in
    let work : Mind → Plan Tried = work_of t.purpose t.flags (fed_piece t.flags p) c.in-Ok.field-0.command in
    c.do_free.ensures.sure work c.in_ok-errand-in-Ok.ensures

pub returns-in-Err-clause-sure : goal.returns-in-Err-clause-sure
returns-in-Err-clause-sure g c = c.tell_refusal.ensures.sure c.args.task.now.flags
