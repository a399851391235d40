use Rattle.std.proofs.Common.{refl, rules, ap, ◌∙◌, OnErr, subst}
use Rattle.pm_journal.proofs.WantsMemory.{on_err, out_anywhere}
use Rattle.pm_meaning.specs.Delivering.{deliver_default, file_and_say, no_flags}
use Rattle.pm_meaning.specs.Minds.{mind_of}
use Rattle.pm_meaning.proofs.Choices.{carried}
use Rattle.pm_perform.specs.Refusals.{Refuses}
use Rattle.pm_perform.specs.Undelivered.{Undelivered}
use Rattle.pm_perform.proofs.CalmLemmas.{sure_none}
use Rattle.pm_perform.proofs.DeliverLemmas.{default_is}
use Rattle.pm_perform.proofs.delivering.deliver_default.Goals as goal

pub returns-in_err-word-clause-carries : goal.returns-in_err-word-clause-carries
returns-in_err-word-clause-carries g c = (search rules, on_err _ _ (out_anywhere (deliver_default c.args.mailbox.now (mind_of c.args.run.now.process)) _ _ _ refl))

pub returns-in-Ok-clause-carries : goal.returns-in-Ok-clause-carries
returns-in-Ok-clause-carries g c =
    let p = mind_of c.args.run.now.process in
    let text = c.as_slice.result.now in
    let target = c.in-Ok.target in
    let flags = c.no_flags.result in
    let known = rw c.in-Ok.is at c.target_among.ensures.target in
    let default = default_is c.args.mailbox.now text c.in_ok-word.word c.empty.result c.empty-2.result flags p c.as_slice.ensures c.in_ok-word.ensures c.empty.ensures c.empty-2.ensures c.no_flags.ensures in
    let same = ap (λ l. file_and_say flags target.lock text l p) c.as_slice-in-Ok.ensures.value ∙ (known ∙ default) in
    carried (file_and_say flags target.lock text c.as_slice-in-Ok.result.now p) (deliver_default c.args.mailbox.now p) _ _ _ _ _ _ same c.file_and_say.ensures.carries

pub returns-clause-carries : goal.returns-clause-carries
returns-clause-carries g c =
    let p = mind_of c.args.run.now.process in
    let text = c.as_slice.result.now in
    let default = default_is c.args.mailbox.now text c.in_ok-word.word c.empty.result c.empty-2.result c.no_flags.result p c.as_slice.ensures c.in_ok-word.ensures c.empty.ensures c.empty-2.ensures c.no_flags.ensures in
    c.tell_refusal.ensures.carries (deliver_default c.args.mailbox.now p) (subst (λ q. Refuses q p c.in-Err.refusal) default (rw c.in-Err.is at c.target_among.ensures.target))

pub returns-in_err-word-clause-sure : goal.returns-in_err-word-clause-sure
returns-in_err-word-clause-sure g c = on_err _ _ (sure_none no_flags c.args.run.now.journal c.args.run.now.journal refl)

pub returns-in-Ok-clause-sure : goal.returns-in-Ok-clause-sure
returns-in-Ok-clause-sure g c =
    subst (λ f. OnErr c.file_and_say.result (Undelivered f c.args.run.now.journal c.file_and_say.new.run.journal)) c.no_flags.ensures c.file_and_say.ensures.sure

pub returns-clause-sure : goal.returns-clause-sure
returns-clause-sure g c = c.tell_refusal.ensures.sure no_flags
