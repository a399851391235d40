use Rattle.pm_meaning.proofs.OneEnding.{ends_one_way}
use Rattle.pm_meaning.proofs.laws.ends_one_way.Goals as goal

pub returns : goal.returns
returns c = ends_one_way
