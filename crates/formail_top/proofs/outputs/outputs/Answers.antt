use Rattle.std.proofs.Common.{◌∙◌}
use Rattle.formail_top.proofs.OutputLemmas.{one_output}
use Rattle.formail_top.proofs.outputs.outputs.Goals as goal

pub loop-mail-preserved : goal.loop-mail-preserved
loop-mail-preserved c =
    rw (c.in_ok-push-2.ensures.items, c.in_ok-push.ensures.items)
    (one_output _ c.args.mails.now c.loop-mail.texts.items c.loop-mail.mail-index c.mail-item.result _ _ c.loop-mail-test.true c.mail-item.is
    (c.into_parts-front.ensures ∙ c.in_ok-output.ensures) c.loop-mail.invariant)
