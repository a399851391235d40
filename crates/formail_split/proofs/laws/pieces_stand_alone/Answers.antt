use Rattle.formail_split.proofs.MailLemmas.{pieces_stand_alone}
use Rattle.formail_split.proofs.laws.pieces_stand_alone.Goals as goal

pub returns : goal.returns
returns c = pieces_stand_alone
