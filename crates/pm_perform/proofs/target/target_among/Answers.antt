use Rattle.std.proofs.Common.{ap, sym, ◌∙◌}
use Rattle.pm_meaning.specs.Delivering.{deliver_to, deliver_named, deliver_at, file_and_say}
use Rattle.pm_meaning.specs.Locks.{blamed_text}
use Rattle.pm_meaning.specs.Minds.{mind_of}
use Rattle.pm_perform.specs.Targets.{file_at}
use Rattle.pm_perform.proofs.RefusalLemmas.{refuses_on}
use Rattle.pm_perform.proofs.target.target_among.Goals as goal

pub returns-in_err-destinations-clause-target : goal.returns-in_err-destinations-clause-target
returns-in_err-destinations-clause-target c =
    let o = c.args.order.now in
    let p = mind_of c.args.process.now in
    let word = c.in_ok-word.word in
    let blamed = blamed_text o.lock.now o.text.now in
    refuses_on (file_at o.flags o.text.now p) (deliver_named o.flags word blamed o.text.now c.args.words.now p) (deliver_to o.flags o.lock.now c.args.value o.text.now c.args.words.now p) p c.in_err-destinations.field-0.0 _
    c.in_ok-word.ensures (c.in_err-destinations.ensures word p) c.from_residual-in_err-destinations.ensures.1

pub returns-in_err-check_free-clause-target : goal.returns-in_err-check_free-clause-target
returns-in_err-check_free-clause-target c =
    let o = c.args.order.now in
    let p = mind_of c.args.process.now in
    let lock = c.in_ok-lock.lock in
    let blamed = blamed_text o.lock.now o.text.now in
    let named = ap (λ l. deliver_at o.flags lock blamed o.text.now l p) c.as_slice.ensures.value ∙ ap (λ l. deliver_at o.flags l blamed o.text.now c.in_ok-destinations.destinations.items p) c.in_ok-lock.ensures in
    refuses_on (file_at o.flags o.text.now p) (deliver_at o.flags lock blamed o.text.now c.as_slice.result.now p) (deliver_to o.flags o.lock.now c.args.value o.text.now c.args.words.now p) p c.in_err-check_free.field-0.0 _
    (named ∙ (c.in_ok-destinations.ensures c.in_ok-word.word p ∙ c.in_ok-word.ensures)) c.in_err-check_free.ensures.goes_on c.from_residual-in_err-check_free.ensures.1

pub returns-clause-target : goal.returns-clause-target
returns-clause-target c =
    let o = c.args.order.now in
    let p = mind_of c.args.process.now in
    let blamed = blamed_text o.lock.now o.text.now in
    let lock = c.in_ok-lock.lock in
    let free = ap (λ l. file_and_say o.flags lock o.text.now l p) (sym c.as_slice.ensures.value) ∙ c.in_ok-check_free.ensures.goes_on in
    let named = ap (λ l. deliver_at o.flags lock blamed o.text.now l p) c.as_slice.ensures.value ∙ ap (λ l. deliver_at o.flags l blamed o.text.now c.in_ok-destinations.destinations.items p) c.in_ok-lock.ensures in
    free ∙ (named ∙ (c.in_ok-destinations.ensures c.in_ok-word.word p ∙ c.in_ok-word.ensures))
