use Rattle.pm_journal.proofs.ChildLeaves.{children_end}
use Rattle.pm_journal.proofs.child_laws.children_end.Goals as goal

pub returns : goal.returns
returns c = children_end
