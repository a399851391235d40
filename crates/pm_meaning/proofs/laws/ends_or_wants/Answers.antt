use Rattle.pm_meaning.proofs.OneOutcome.{ends_or_wants}
use Rattle.pm_meaning.proofs.laws.ends_or_wants.Goals as goal

pub returns : goal.returns
returns c = ends_or_wants
