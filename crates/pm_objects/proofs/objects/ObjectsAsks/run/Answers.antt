use Rattle.std.proofs.Common.{sym}
use Rattle.pm_objects.proofs.Notes.{run_held, left_held}
use Rattle.pm_objects.proofs.objects.ObjectsAsks.run.Goals as goal

pub returns-clause-ok : goal.returns-clause-ok
returns-clause-ok g c = run_held _ _ _ _ _ _ _ _ _ _ _ (c.run_noted.ensures.ok _ _ (sym c.faults.ensures) (sym c.faults-2.ensures))

pub returns-clause-left : goal.returns-clause-left
returns-clause-left g c = left_held _ _ _ _ _ _ _ (c.run_noted.ensures.left _ _)
