use Rattle.pm_journal.proofs.Spans.{trees_follow}
use Rattle.pm_journal.proofs.laws.trees_follow.Goals as goal

pub returns : goal.returns
returns c = trees_follow c.entries_make_tree.ensures
