use Rattle.pm_journal.proofs.ChildFacts.{children_run_right}
use Rattle.pm_journal.proofs.child_laws.children_run_right.Goals as goal

pub returns : goal.returns
returns c = children_run_right
