use Rattle.pm_meaning.proofs.ClearRun.{clear_is_well}
use Rattle.pm_meaning.proofs.laws.clear_is_well.Goals as goal

pub returns : goal.returns
returns c = clear_is_well c.end_has_status.ensures
