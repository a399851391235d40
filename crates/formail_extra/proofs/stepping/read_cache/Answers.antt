use Rattle.formail_extra.proofs.NoChildAsked.{reads_child}
use Rattle.formail_extra.proofs.stepping.read_cache.Goals as goal

pub returns-clause-child : goal.returns-clause-child
returns-clause-child g c = reads_child _ _ _ _ c.read_front.ensures.reads.reads
