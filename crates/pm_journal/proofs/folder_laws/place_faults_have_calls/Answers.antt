use Rattle.pm_journal.proofs.PlaceCause.{place_cause}
use Rattle.pm_journal.proofs.folder_laws.place_faults_have_calls.Goals as goal

pub returns : goal.returns
returns c = place_cause
