use Rattle.pm_meaning.proofs.Beside.{first_same, second_same, third_same}
use Rattle.pm_run.proofs.TaskLemmas.{processes_plain, processes_back}
use Rattle.pm_run.proofs.parts.run_lent.Goals as goal

pub returns-clause-processes : goal.returns-clause-processes
returns-clause-processes g c = processes_plain _ _ _ _ c.run_task.ensures.processes

pub returns-clause-host : goal.returns-clause-host
returns-clause-host g c = first_same _ _ _ _ _ _ (processes_back _ _ _ _ c.run_task.ensures.processes)

pub returns-clause-out : goal.returns-clause-out
returns-clause-out g c = second_same _ _ _ _ _ _ (processes_back _ _ _ _ c.run_task.ensures.processes)

pub returns-clause-err : goal.returns-clause-err
returns-clause-err g c = third_same _ _ _ _ _ _ (processes_back _ _ _ _ c.run_task.ensures.processes)
