use Rattle.std.proofs.Common.{refl, rules, ap, ◌∙◌}
use Rattle.pm_journal.proofs.WantsMemory.{on_err, out_anywhere, out_front}
use Rattle.pm_subst.specs.Commands.{commands_in}
use Rattle.pm_subst.specs.declared.kinds.Mode.TheVariants.{One}
use Rattle.pm_meaning.specs.Delivering.{make_ready, deliver, deliver_with, file_and_say}
use Rattle.pm_meaning.specs.Minds.{mind_of}
use Rattle.pm_meaning.specs.Ready.{ready_of}
use Rattle.pm_meaning.proofs.Choices.{carried}
use Rattle.pm_perform.proofs.DeliverLemmas.{with_ready, ready_first}
use Rattle.pm_meaning.proofs.Sequences.{then_carries, out_same}
use Rattle.pm_meaning.proofs.Choices.{err_map}
use Rattle.pm_perform.proofs.CalmLemmas.{calm_out, calm_end, calm_ready, calm_sure, sure_none, sure_after}
use Rattle.pm_perform.proofs.delivering.deliver_mail.Goals as goal

pub returns-in_err-lock_commands-clause-carries : goal.returns-in_err-lock_commands-clause-carries
returns-in_err-lock_commands-clause-carries g c = (search rules, on_err _ _ (out_anywhere _ _ _ _ refl))

pub returns-in_err-text_commands-clause-carries : goal.returns-in_err-text_commands-clause-carries
returns-in_err-text_commands-clause-carries g c = (search rules, on_err _ _ (out_anywhere _ _ _ _ refl))

pub returns-in_err-ready-clause-carries : goal.returns-in_err-ready-clause-carries
returns-in_err-ready-clause-carries g c =
    let o = c.args.order.now in
    let p = mind_of c.args.run.now.process in
    let locks = c.as_slice.ensures.value ∙ c.in_ok-lock_commands.ensures ∙ ap (commands_in One) c.lock_text.ensures in
    let same = ready_first o.flags o.lock.now o.text.now c.as_slice.result.now c.as_slice-2.result.now p locks (c.as_slice-2.ensures.value ∙ c.in_ok-text_commands.ensures) in
    (search rules, on_err _ _ (out_same _ (deliver o.flags o.lock.now o.text.now p) _ _ _ _ same (out_front (make_ready c.as_slice.result.now c.as_slice-2.result.now p) (with_ready o.flags o.lock.now o.text.now) _ _ _ _ c.in_err-ready.ensures.carries.1)))

pub returns-in-Ok-clause-carries : goal.returns-in-Ok-clause-carries
returns-in-Ok-clause-carries g c =
    let o = c.args.order.now in
    let p = mind_of c.args.run.now.process in
    let q = mind_of c.make_ready.new.run.process in
    let target = c.in-Ok.target in
    let known = rw c.in-Ok.is at c.target_of.ensures.target in
    let files = ap (λ l. file_and_say o.flags target.lock o.text.now l q) c.as_slice-in-Ok.ensures.value ∙ known in
    let filed = carried (file_and_say o.flags target.lock o.text.now c.as_slice-in-Ok.result.now q) (deliver_with o.flags o.lock.now o.text.now (ready_of c.in_ok-ready.ready q)) _ _ _ _ _ _ files c.file_and_say.ensures.carries in
    let locks = c.as_slice.ensures.value ∙ c.in_ok-lock_commands.ensures ∙ ap (commands_in One) c.lock_text.ensures in
    let same = ready_first o.flags o.lock.now o.text.now c.as_slice.result.now c.as_slice-2.result.now p locks (c.as_slice-2.ensures.value ∙ c.in_ok-text_commands.ensures) in
    carried _ (deliver o.flags o.lock.now o.text.now p) _ _ _ _ _ _ same
    (then_carries (make_ready c.as_slice.result.now c.as_slice-2.result.now p) (with_ready o.flags o.lock.now o.text.now) (ready_of c.in_ok-ready.ready q) _ _ _ _ _ _ _ _
    c.in_ok-ready.ensures.carries.0 filed)

pub returns-clause-carries : goal.returns-clause-carries
returns-clause-carries g c =
    let o = c.args.order.now in
    let p = mind_of c.args.run.now.process in
    let q = mind_of c.make_ready.new.run.process in
    let told = c.tell_refusal.ensures.carries (deliver_with o.flags o.lock.now o.text.now (ready_of c.in_ok-ready.ready q)) (rw c.in-Err.is at c.target_of.ensures.target) in
    let locks = c.as_slice.ensures.value ∙ c.in_ok-lock_commands.ensures ∙ ap (commands_in One) c.lock_text.ensures in
    let same = ready_first o.flags o.lock.now o.text.now c.as_slice.result.now c.as_slice-2.result.now p locks (c.as_slice-2.ensures.value ∙ c.in_ok-text_commands.ensures) in
    carried _ (deliver o.flags o.lock.now o.text.now p) _ _ _ _ _ _ same
    (then_carries (make_ready c.as_slice.result.now c.as_slice-2.result.now p) (with_ready o.flags o.lock.now o.text.now) (ready_of c.in_ok-ready.ready q) _ _ _ _ _ _ _ _
    c.in_ok-ready.ensures.carries.0 told)

pub returns-in_err-lock_commands-clause-sure : goal.returns-in_err-lock_commands-clause-sure
returns-in_err-lock_commands-clause-sure g c = on_err _ _ (sure_none c.args.order.now.flags c.args.run.now.journal c.args.run.now.journal refl)

pub returns-in_err-text_commands-clause-sure : goal.returns-in_err-text_commands-clause-sure
returns-in_err-text_commands-clause-sure g c = on_err _ _ (sure_none c.args.order.now.flags c.args.run.now.journal c.args.run.now.journal refl)

pub returns-in_err-ready-clause-sure : goal.returns-in_err-ready-clause-sure
returns-in_err-ready-clause-sure g c =
    let p = mind_of c.args.run.now.process in
    on_err _ _ (calm_sure c.args.order.now.flags c.args.run.now.journal c.make_ready.new.run.journal (calm_out c.args.order.now.flags (make_ready c.as_slice.result.now c.as_slice-2.result.now p) c.args.run.now.journal c.make_ready.new.run.journal _ _ (calm_ready c.args.order.now.flags c.as_slice.result.now c.as_slice-2.result.now p) c.in_err-ready.ensures.carries.1))

pub returns-in-Ok-clause-sure : goal.returns-in-Ok-clause-sure
returns-in-Ok-clause-sure g c =
    let p = mind_of c.args.run.now.process in
    let calm = calm_end c.args.order.now.flags (make_ready c.as_slice.result.now c.as_slice-2.result.now p) (ready_of c.in_ok-ready.ready (mind_of c.make_ready.new.run.process)) c.args.run.now.journal c.make_ready.new.run.journal _ _ (calm_ready c.args.order.now.flags c.as_slice.result.now c.as_slice-2.result.now p) c.in_ok-ready.ensures.carries.0 in
    err_map c.file_and_say.result _ _ (sure_after c.args.order.now.flags c.args.run.now.journal c.make_ready.new.run.journal c.file_and_say.new.run.journal calm) c.file_and_say.ensures.sure

pub returns-clause-sure : goal.returns-clause-sure
returns-clause-sure g c =
    let p = mind_of c.args.run.now.process in
    let calm = calm_end c.args.order.now.flags (make_ready c.as_slice.result.now c.as_slice-2.result.now p) (ready_of c.in_ok-ready.ready (mind_of c.make_ready.new.run.process)) c.args.run.now.journal c.make_ready.new.run.journal _ _ (calm_ready c.args.order.now.flags c.as_slice.result.now c.as_slice-2.result.now p) c.in_ok-ready.ensures.carries.0 in
    err_map c.tell_refusal.result _ _ (sure_after c.args.order.now.flags c.args.run.now.journal c.make_ready.new.run.journal c.tell_refusal.new.run.journal calm) (c.tell_refusal.ensures.sure c.args.order.now.flags)
