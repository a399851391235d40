use Rattle.formail_edit.proofs.EmptyLines.{headers_stay_whole}
use Rattle.formail_edit.proofs.laws.headers_stay_whole.Goals as goal

pub returns : goal.returns
returns c = headers_stay_whole
