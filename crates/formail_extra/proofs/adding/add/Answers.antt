use Rattle.formail_extra.proofs.NoChildAsked.{appends_child}
use Rattle.formail_extra.proofs.adding.add.Goals as goal

pub returns-clause-child : goal.returns-clause-child
returns-clause-child g c = appends_child _ _ _ _ _ _ c.append_whole.ensures.appends
