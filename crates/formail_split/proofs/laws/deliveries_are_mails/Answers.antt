use Rattle.formail_split.proofs.MailLemmas.{deliveries_are_mails}
use Rattle.formail_split.proofs.laws.deliveries_are_mails.Goals as goal

pub returns : goal.returns
returns c = deliveries_are_mails c.deliveries_add_one.ensures
