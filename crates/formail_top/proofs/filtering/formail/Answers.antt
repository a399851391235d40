use Rattle.std.proofs.Common.{refl}
use Rattle.formail_top.specs.Run.{memory}
use Rattle.formail_top.proofs.filtering.formail.Goals as goal

pub returns-in-Err-clause-ended : goal.returns-in-Err-clause-ended
returns-in-Err-clause-ended g c =
    memory refl (record { host_left = c.in-Err.ensures.left; out_same = c.in-Err.ensures.unwritten })
