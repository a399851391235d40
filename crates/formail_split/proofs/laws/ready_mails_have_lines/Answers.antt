use Rattle.formail_split.proofs.MailLemmas.{ready_mails_have_lines}
use Rattle.formail_split.proofs.laws.ready_mails_have_lines.Goals as goal

pub returns : goal.returns
returns c = ready_mails_have_lines
