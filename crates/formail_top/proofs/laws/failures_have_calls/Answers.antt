use Rattle.formail_top.proofs.Faults.{ended_rose}
use Rattle.formail_top.proofs.laws.failures_have_calls.Goals as goal

pub returns : goal.returns
returns c = ended_rose c.failures_have_calls.ensures
