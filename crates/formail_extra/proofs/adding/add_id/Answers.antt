use Rattle.std.proofs.Common.{arith}
use Rattle.formail_extra.specs.Adding.{again}
use Rattle.formail_extra.proofs.adding.add_id.Goals as goal

pub returns-then-cache-len-clause-adds : goal.returns-then-cache-len-clause-adds
returns-then-cache-len-clause-adds g c = again (omega (arith, c.if-cache-len.true, c.len.ensures)) c.begin_again.ensures.begins
