use Rattle.std.proofs.Common.{refl}
use Rattle.pm_meaning.proofs.laws.clone_goes_on.Goals as goal

pub returns : goal.returns
returns c = record { steps = 21; plays = (refl, tt, (refl, tt, (refl, tt, (refl, tt, (refl, tt, refl))))) }
