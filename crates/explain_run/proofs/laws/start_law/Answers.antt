use Rattle.explain_run.proofs.Stays.{stays}
use Rattle.explain_run.proofs.laws.start_law.Goals as goal

pub returns : goal.returns
returns c lines entries before after index command input b h = stays lines entries before after index command input b h
