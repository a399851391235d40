use Rattle.pm_journal.proofs.ChildFacts.{child_faults_have_calls}
use Rattle.pm_journal.proofs.child_laws.child_faults_have_calls.Goals as goal

pub returns : goal.returns
returns c = child_faults_have_calls
