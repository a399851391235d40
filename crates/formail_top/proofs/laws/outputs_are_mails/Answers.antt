use Rattle.formail_top.proofs.MailLemmas.{outputs_are_mails}
use Rattle.formail_top.proofs.laws.outputs_are_mails.Goals as goal

pub returns : goal.returns
returns c = outputs_are_mails c.edited_are_mails.ensures
