use Rattle.pm_journal.proofs.Causes.{faults_raise}
use Rattle.pm_journal.proofs.laws.faults_raise.Goals as goal

pub returns : goal.returns
returns c = faults_raise c.faults_have_calls.ensures
