use Rattle.std.proofs.Common.{refl, sym}
use Rattle.pm_conds.specs.Asked.{silent}
use Rattle.pm_conds.proofs.HoldLemmas.{run_held, left_held}
use Rattle.pm_conds.proofs.asked.AskedAsks.run.Goals as goal

pub returns-clause-ok : goal.returns-clause-ok
returns-clause-ok g c = run_held _ _ _ _ _ _ _ _ _ _ _ (c.run_noted.ensures.ok (silent _) _ refl (sym c.faults.ensures))

pub returns-clause-left : goal.returns-clause-left
returns-clause-left g c = left_held _ _ _ _ _ _ _ (c.run_noted.ensures.left (silent _) _)
