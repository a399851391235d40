use Rattle.formail_extra.proofs.FollowLemmas.{marks_none}
use Rattle.formail_extra.proofs.known.Known.clear.Goals as goal

pub invariant_of-self : goal.invariant_of-self
invariant_of-self c = record { marks_seen = marks_none _ _ c.clear.ensures.items c.clear-2.ensures }
