use Rattle.formail_extra.proofs.FollowLemmas.{marks_none}
use Rattle.formail_extra.proofs.known.Known.new.Goals as goal

pub invariant_of-result : goal.invariant_of-result
invariant_of-result c = record { marks_seen = marks_none _ _ c.requires.empty c.requires.clear }
