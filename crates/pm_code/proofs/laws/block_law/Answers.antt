use Rattle.pm_code.proofs.Reading.{ends_there}
use Rattle.pm_code.proofs.laws.block_law.Goals as goal

pub returns : goal.returns
returns c = ends_there
