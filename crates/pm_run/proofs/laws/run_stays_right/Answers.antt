use Rattle.pm_run.proofs.RightRuns.{run_stays_right}
use Rattle.pm_run.proofs.laws.run_stays_right.Goals as goal

pub returns : goal.returns
returns c = run_stays_right
