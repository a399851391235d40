use Rattle.formail_split.proofs.WrittenLemmas.{edited_are_mails}
use Rattle.formail_split.proofs.laws.edited_are_mails.Goals as goal

pub returns : goal.returns
returns c = edited_are_mails c.edited_stand_alone.ensures
