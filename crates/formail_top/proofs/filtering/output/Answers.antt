use Rattle.std.proofs.Common.{rules, w64}
use Rattle.std.proofs.Math.Facts.{to_z-of_z}
use Rattle.formail_top.proofs.filtering.output.Goals as goal

pub returns-clause-ok : goal.returns-clause-ok
returns-clause-ok g c =
    let moment = to_z-of_z {w = w64} {z = c.in_ok-moment.moment} (search rules) in
    record { moment = c.in_ok-moment.moment; asks = c.in_ok-moment.ensures.ok; outputs = rw moment at c.in_ok-texts.ensures }
