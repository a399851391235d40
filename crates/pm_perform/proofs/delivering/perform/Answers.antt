use Rattle.pm_recipe.specs.View.{act_of, top_of}
use Rattle.pm_meaning.specs.Acting.{act_on}
use Rattle.pm_meaning.specs.ProgramActions.{write_out}
use Rattle.pm_meaning.specs.Minds.{mind_of}
use Rattle.pm_meaning.proofs.Choices.{carried}
use Rattle.pm_perform.proofs.DeliverLemmas.{goes_on, acts_block, stores, pipes, captures, forwards, writes_out}
use Rattle.std.proofs.Common.{OnErr, subst}
use Rattle.pm_perform.specs.Undelivered.{Undelivered}
use Rattle.pm_perform.proofs.delivering.perform.Goals as goal

pub returns-in-Mailbox-clause-carries : goal.returns-in-Mailbox-clause-carries
returns-in-Mailbox-clause-carries g c =
    let p = mind_of c.args.run.now.process in
    let top = top_of c.args.recipe.now in
    let action = c.args.recipe.now.action in
    let o = c.order_of-order.result in
    let e = c.order_of-order.ensures in
    carried _ (act_on top (act_of action) p) _ _ _ _ _ _ (stores top action c.in-Mailbox.text o.text.now o.flags o.lock.now p c.in-Mailbox.is (e.flags, e.lock, e.text)) c.deliver_mail.ensures.carries

pub returns-in-Pipe-clause-carries : goal.returns-in-Pipe-clause-carries
returns-in-Pipe-clause-carries g c =
    let p = mind_of c.args.run.now.process in
    let top = top_of c.args.recipe.now in
    let action = c.args.recipe.now.action in
    let o = c.order_of-order-in-Pipe.result in
    let e = c.order_of-order-in-Pipe.ensures in
    carried _ (act_on top (act_of action) p) _ _ _ _ _ _ (pipes top action c.in-Pipe.line o.text.now o.flags o.lock.now p c.in-Pipe.is (e.flags, e.lock, e.text)) c.pipe.ensures.carries

pub returns-in-Capture-clause-carries : goal.returns-in-Capture-clause-carries
returns-in-Capture-clause-carries g c =
    let p = mind_of c.args.run.now.process in
    let top = top_of c.args.recipe.now in
    let action = c.args.recipe.now.action in
    let o = c.order_of-order-in-Capture.result in
    let e = c.order_of-order-in-Capture.ensures in
    carried _ (act_on top (act_of action) p) _ _ _ _ _ _ (captures top action c.in-Capture.line o.text.now o.flags o.lock.now p c.in-Capture.name c.in-Capture.is (e.flags, e.lock, e.text)) c.capture.ensures.carries

pub returns-in-Forward-clause-carries : goal.returns-in-Forward-clause-carries
returns-in-Forward-clause-carries g c =
    let p = mind_of c.args.run.now.process in
    let top = top_of c.args.recipe.now in
    let action = c.args.recipe.now.action in
    let o = c.order_of-order-in-Forward.result in
    let e = c.order_of-order-in-Forward.ensures in
    carried _ (act_on top (act_of action) p) _ _ _ _ _ _ (forwards top action c.in-Forward.text o.text.now o.flags o.lock.now p c.in-Forward.is (e.flags, e.lock, e.text)) c.forward.ensures.carries

pub returns-in-WriteOut-clause-carries : goal.returns-in-WriteOut-clause-carries
returns-in-WriteOut-clause-carries g c =
    let p = mind_of c.args.run.now.process in
    let top = top_of c.args.recipe.now in
    carried (write_out top.flags top.lock p) (act_on top (act_of c.args.recipe.now.action) p) _ _ _ _ _ _ (writes_out top c.args.recipe.now.action p c.in-WriteOut.is) c.write_out.ensures.carries

pub returns-in-Block : goal.returns-in-Block
returns-in-Block g c =
    let p = mind_of c.args.run.now.process in
    record { carries = (goes_on p _ _ _ (acts_block (top_of c.args.recipe.now) c.args.recipe.now.action _ p c.in-Block.is), tt); sure = tt }

pub returns-in-Mailbox-clause-sure : goal.returns-in-Mailbox-clause-sure
returns-in-Mailbox-clause-sure g c =
    subst (λ f. OnErr c.deliver_mail.result (Undelivered f c.args.run.now.journal c.deliver_mail.new.run.journal)) c.order_of-order.ensures.flags c.deliver_mail.ensures.sure

pub returns-in-Pipe-clause-sure : goal.returns-in-Pipe-clause-sure
returns-in-Pipe-clause-sure g c =
    subst (λ f. OnErr c.pipe.result (Undelivered f c.args.run.now.journal c.pipe.new.run.journal)) c.order_of-order-in-Pipe.ensures.flags c.pipe.ensures.sure

pub returns-in-Capture-clause-sure : goal.returns-in-Capture-clause-sure
returns-in-Capture-clause-sure g c =
    subst (λ f. OnErr c.capture.result (Undelivered f c.args.run.now.journal c.capture.new.run.journal)) c.order_of-order-in-Capture.ensures.flags c.capture.ensures.sure

pub returns-in-Forward-clause-sure : goal.returns-in-Forward-clause-sure
returns-in-Forward-clause-sure g c =
    subst (λ f. OnErr c.forward.result (Undelivered f c.args.run.now.journal c.forward.new.run.journal)) c.order_of-order-in-Forward.ensures.flags c.forward.ensures.sure

pub returns-in-WriteOut-clause-sure : goal.returns-in-WriteOut-clause-sure
returns-in-WriteOut-clause-sure g c = c.write_out.ensures.sure
