use Rattle.std.proofs.Common.{◌++◌}
use Rattle.std.specs.List.{concat}
use Rattle.formail_top.proofs.LeavingLemmas.{on_err}
use Rattle.formail_top.proofs.OutputLemmas.{front_output, asked_at_most}
use Rattle.formail_top.proofs.filtering.write_mailbox.Goals as goal

pub returns-in_err-status-clause-asked : goal.returns-in_err-status-clause-asked
returns-in_err-status-clause-asked g c = on_err _ (asked_at_most _ _ _ _ c.in_ok-texts.ensures.ok.asks)

pub returns-clause-ok : goal.returns-clause-ok
returns-clause-ok g c =
    let output = rw (c.as_slice.ensures.value, c.in_ok-mails.ensures) at c.in_ok-texts.ensures.ok in
    record {
      text = c.in_ok-part.field-0 ++ concat c.in_ok-texts.texts.items;
      output = front_output c.args.request.now c.args.mailbox.now c.in_ok-part.field-0 c.in_ok-rest.rest (concat c.in_ok-texts.texts.items) c.in_ok-front.front _ _
          c.requires.mails
          (record { within = c.in_ok-front.ensures.within; outputs = c.in_ok-front.ensures.outputs; wants = c.in_ok-front.ensures.wants }) c.in_ok-part.ensures (rw c.len.ensures at c.in_ok-rest.ensures) output;
      written = rw (c.as_slice-2.ensures.value, c.in_ok-insert.ensures.items) at c.in_ok-status.ensures.ok;
    }
