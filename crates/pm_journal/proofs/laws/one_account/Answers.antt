use Rattle.pm_journal.proofs.OneGrouping.{one_account}
use Rattle.pm_journal.proofs.laws.one_account.Goals as goal

pub returns : goal.returns
returns c = one_account c.one_grouping.ensures
