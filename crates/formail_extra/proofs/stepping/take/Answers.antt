use Rattle.formail_extra.proofs.NoChildAsked.{takes_child}
use Rattle.formail_extra.proofs.stepping.take.Goals as goal

pub returns-clause-child : goal.returns-clause-child
returns-clause-child g c = takes_child _ _ _ _ _ c.take_lock.ensures.takes
