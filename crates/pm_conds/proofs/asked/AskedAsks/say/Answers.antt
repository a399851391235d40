use Rattle.std.proofs.Common.{refl}
use Rattle.pm_conds.specs.Asked.{silent}
use Rattle.pm_conds.proofs.HoldLemmas.{said_held}
use Rattle.pm_conds.proofs.asked.AskedAsks.say.Goals as goal

pub returns : goal.returns
returns g c = said_held _ _ _ _ _ _ _ _ _ _ (c.say.ensures (silent _) refl)
