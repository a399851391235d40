use Rattle.pm_run.proofs.TaskLemmas.{processes_right}
use Rattle.pm_run.proofs.parts.run_process.Goals as goal

pub returns-clause-right : goal.returns-clause-right
returns-clause-right g c = processes_right _ _ _ _ c.run_lent.ensures.processes
