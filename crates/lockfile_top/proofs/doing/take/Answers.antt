use Rattle.lockfile_top.proofs.TaskLemmas.{lock_taken}
use Rattle.lockfile_top.proofs.doing.take.Goals as goal

pub returns-in-Held-clause-done : goal.returns-in-Held-clause-done
returns-in-Held-clause-done g c = lock_taken _ _ _ _ _ _ _ _ _ _ _ _ _ _ c.in-Held.ensures c.requires.again c.requires.forcing c.add.ensures.names c.tell_force.ensures.says
