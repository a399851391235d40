use Rattle.pm_journal.proofs.ChildFacts.{children_change_nothing}
use Rattle.pm_journal.proofs.child_laws.children_change_nothing.Goals as goal

pub returns : goal.returns
returns c = children_change_nothing
