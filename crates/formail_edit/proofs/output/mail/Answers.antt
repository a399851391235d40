use Rattle.formail_edit.proofs.BodyLemmas.{mail_stays}
use Rattle.formail_edit.proofs.output.mail.Goals as goal

pub returns-then-stays : goal.returns-then-stays
returns-then-stays c =
    rw (c.new-then-stays.ensures, c.in_ok-head.ensures, c.in_ok-copy.ensures)
    (mail_stays c.args.edits.now c.args.fields.now c.args.body.now c.args.line.now (rw c.as_slice.ensures at (c.stays.ensures c.if-stays.true)))
