use Rattle.pm_real.proofs.Cutting.{no_more}
use Rattle.pm_real.proofs.laws.no_more_is_cut.Goals as goal

pub returns : goal.returns
returns c = no_more
