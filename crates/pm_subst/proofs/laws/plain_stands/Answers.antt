use Rattle.pm_subst.proofs.Plain.{plain-stands}
use Rattle.pm_subst.proofs.laws.plain_stands.Goals as goal

pub returns : goal.returns
returns c = plain-stands
