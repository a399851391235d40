use Rattle.explain_notes.proofs.Standing.{recipes-have-lines}
use Rattle.explain_notes.proofs.laws.lines_law.Goals as goal

pub returns : goal.returns
returns c = recipes-have-lines
