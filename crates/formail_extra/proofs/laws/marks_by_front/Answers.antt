use Rattle.formail_extra.proofs.FrontMarks.{same_marks}
use Rattle.formail_extra.proofs.laws.marks_by_front.Goals as goal

pub returns : goal.returns
returns c = same_marks
