use Rattle.std.proofs.Common.{ap, ◌∙◌}
use Rattle.pm_meaning.specs.Delivering.{deliver_with, deliver_text, deliver_to}
use Rattle.pm_meaning.specs.Minds.{mind_of}
use Rattle.pm_meaning.specs.Ready.{ready_of}
use Rattle.pm_perform.specs.Targets.{file_at}
use Rattle.pm_perform.proofs.RefusalLemmas.{continues_on, refuses_on}
use Rattle.pm_perform.proofs.target.target_of.Goals as goal

pub returns-in_err-words-clause-target : goal.returns-in_err-words-clause-target
returns-in_err-words-clause-target c =
    let o = c.args.order.now in
    let p = mind_of c.args.process.now in
    let value = c.in_ok-value.value in
    let behind = ap (λ l. deliver_text o.flags o.lock.now value o.text.now l p) c.as_slice.ensures.value ∙ c.in_ok-value.ensures in
    refuses_on (file_at o.flags o.text.now p) (deliver_text o.flags o.lock.now value o.text.now c.as_slice.result.now p) (deliver_with o.flags o.lock.now o.text.now (ready_of c.args.ready.now p)) p c.in_err-words.field-0.0 _
    behind (c.in_err-words.ensures value) c.from_residual-in_err-words.ensures.1

pub returns-clause-target : goal.returns-clause-target
returns-clause-target c =
    let o = c.args.order.now in
    let p = mind_of c.args.process.now in
    let value = c.in_ok-value.value in
    let expanded = ap (λ l. deliver_to o.flags o.lock.now value o.text.now l p) c.as_slice-2.ensures.value ∙ c.in_ok-words.ensures value in
    let behind = ap (λ l. deliver_text o.flags o.lock.now value o.text.now l p) c.as_slice.ensures.value ∙ c.in_ok-value.ensures in
    continues_on (file_at o.flags o.text.now p) (deliver_to o.flags o.lock.now value o.text.now c.as_slice-2.result.now p) (deliver_with o.flags o.lock.now o.text.now (ready_of c.args.ready.now p)) p _
    (expanded ∙ behind) c.target_among.ensures.target
