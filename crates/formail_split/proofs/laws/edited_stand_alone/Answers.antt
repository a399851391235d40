use Rattle.formail_split.proofs.WrittenLemmas.{edited_stand_alone}
use Rattle.formail_split.proofs.laws.edited_stand_alone.Goals as goal

pub returns : goal.returns
returns c = edited_stand_alone
