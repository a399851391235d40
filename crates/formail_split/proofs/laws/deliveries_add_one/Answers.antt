use Rattle.formail_split.proofs.MailLemmas.{deliveries_add_one}
use Rattle.formail_split.proofs.laws.deliveries_add_one.Goals as goal

pub returns : goal.returns
returns c = deliveries_add_one c.pieces_stand_alone.ensures
