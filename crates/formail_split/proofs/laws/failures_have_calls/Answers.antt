use Rattle.formail_split.proofs.FeedLaws.{failures_have_calls}
use Rattle.formail_split.proofs.laws.failures_have_calls.Goals as goal

pub returns : goal.returns
returns c = failures_have_calls c.child_faults_have_calls.ensures
