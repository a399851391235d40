use Rattle.pm_meaning.proofs.OneOutcome.{one_end}
use Rattle.pm_meaning.proofs.laws.one_end.Goals as goal

pub returns : goal.returns
returns c = one_end
