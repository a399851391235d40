use Rattle.formail_split.proofs.FeedLaws.{fine_took_all}
use Rattle.formail_split.proofs.laws.fine_took_all.Goals as goal

pub returns : goal.returns
returns c = fine_took_all c.children_run_right.ensures
