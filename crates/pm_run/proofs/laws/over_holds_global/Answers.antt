use Rattle.pm_run.proofs.RightRuns.{over_holds_global}
use Rattle.pm_run.proofs.laws.over_holds_global.Goals as goal

pub returns : goal.returns
returns c = over_holds_global
