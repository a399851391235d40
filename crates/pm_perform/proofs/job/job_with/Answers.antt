use Rattle.pm_host.specs.declared.command.Command.{Command}
use Rattle.pm_journal.specs.Plan.{Plan}
use Rattle.pm_meaning.specs.Minds.{Mind, mind_of}
use Rattle.pm_meaning.specs.ProgramActions.{Tried, work_of, fed_piece, do_named, do_line}
use Rattle.pm_meaning.specs.declared.process.ProgramLine.TheVariants.{Runs}
use Rattle.pm_perform.specs.Errands.{task_of}
use Rattle.pm_perform.specs.Jobs.{run_at}
use Rattle.pm_perform.proofs.RefusalLemmas.{refuses_on}
use Rattle.pm_perform.proofs.TaskLemmas.{read_so}
use Rattle.pm_perform.proofs.job.job_with.Goals as goal

pub returns-in_err-lock-in-Runs-clause-job : goal.returns-in_err-lock-in-Runs-clause-job
returns-in_err-lock-in-Runs-clause-job c =
    let t = task_of c.args.task.now in
    let p = mind_of c.args.process.now in
    let work : Command → Mind → Plan Tried = work_of t.purpose t.flags (fed_piece t.flags p) in
    refuses_on (run_at t p) (do_named t c.args.word (work c.in-Runs.command) p) (do_line t c.args.word work c.args.line p) p c.in_err-lock-in-Runs.field-0.0 _
    (read_so t c.args.word work (Runs c.in-Runs.command) c.args.line p c.in-Runs.is) (c.in_err-lock-in-Runs.ensures.lock (work c.in-Runs.command)) c.from_residual.ensures.1
