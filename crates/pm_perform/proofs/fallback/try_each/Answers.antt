use Rattle.std.proofs.Common.{◌≡◌, [], refl, rules, sym, ◌∙◌}
use Rattle.pm_journal.proofs.PlanLeads.{leads_itself}
use Rattle.pm_journal.proofs.WantsMemory.{on_err}
use Rattle.pm_meaning.specs.Apart.{acted_with}
use Rattle.pm_meaning.specs.Delivering.{try_each, no_flags}
use Rattle.pm_meaning.specs.Minds.{mind_of}
use Rattle.pm_meaning.specs.declared.acted.Acted.TheVariants.{Failed}
use Rattle.pm_meaning.specs.declared.acted.Cause.TheVariants.{NoName}
use Rattle.pm_perform.proofs.CalmLemmas.{sure_none}
use Rattle.pm_perform.proofs.FailedLemmas.{failed_sure, sure_on}
use Rattle.pm_perform.proofs.FallbackLemmas.{mailbox_failed, mailbox_taken, mailbox_wants, mailboxes_over}
use Rattle.pm_perform.proofs.fallback.try_each.Goals as goal

pub loop-mailbox-init : goal.loop-mailbox-init
loop-mailbox-init g c = record { leads = leads_itself _ _ _; sure = sure_none no_flags c.args.run.now.journal c.args.run.now.journal refl }

pub returns-in_err-acted-clause-carries : goal.returns-in_err-acted-clause-carries
returns-in_err-acted-clause-carries g c =
    let whole = try_each c.args.mailboxes.items (Failed NoName) (mind_of c.args.run.now.process) in
    (search rules, on_err _ _ (mailbox_wants whole c.loop-mailbox.mailboxes.items c.pop_front.new.self.items c.in-Some.mailbox c.loop-mailbox.acted (mind_of c.loop-mailbox.run.process) c.args.run.now.journal c.loop-mailbox.run.journal c.deliver_default.new.run.journal _ _ _ c.in-Some.ensures.items c.loop-mailbox.invariant.leads c.in_err-acted.ensures.carries.1))

pub returns-in_err-acted-clause-sure : goal.returns-in_err-acted-clause-sure
returns-in_err-acted-clause-sure g c = on_err _ _ (sure_on c.args.run.now.journal c.loop-mailbox.run.journal c.deliver_default.new.run.journal c.loop-mailbox.invariant.sure c.in_err-acted.ensures.sure)

pub returns-then-is_delivered-clause-carries : goal.returns-then-is_delivered-clause-carries
returns-then-is_delivered-clause-carries g c =
    let whole = try_each c.args.mailboxes.items (Failed NoName) (mind_of c.args.run.now.process) in
    (mailbox_taken whole c.loop-mailbox.mailboxes.items c.pop_front.new.self.items c.in-Some.mailbox c.loop-mailbox.acted c.in_ok-acted.acted (mind_of c.loop-mailbox.run.process) (mind_of c.deliver_default.new.run.process) c.args.run.now.journal c.loop-mailbox.run.journal c.deliver_default.new.run.journal _ _ _ c.in-Some.ensures.items c.loop-mailbox.invariant.leads (sym c.is_delivered.ensures ∙ c.if-is_delivered.true) c.in_ok-acted.ensures.carries.0, tt)

-- twice, since a mailbox that is dropped may have other owners
pub loop-mailbox-preserved : goal.loop-mailbox-preserved
loop-mailbox-preserved g c =
    let whole = try_each c.args.mailboxes.items (Failed NoName) (mind_of c.args.run.now.process) in
    let other = sym c.is_delivered.ensures ∙ c.if-is_delivered.false in
    let q = mind_of c.deliver_default.new.run.process in
    record {
      leads = mailbox_failed whole c.loop-mailbox.mailboxes.items c.pop_front.new.self.items c.in-Some.mailbox c.loop-mailbox.acted c.in_ok-acted.acted (mind_of c.loop-mailbox.run.process) q c.args.run.now.journal c.loop-mailbox.run.journal c.deliver_default.new.run.journal _ _ _ c.in-Some.ensures.items c.loop-mailbox.invariant.leads other c.in_ok-acted.ensures.carries.0;
      sure = sure_on c.args.run.now.journal c.loop-mailbox.run.journal c.deliver_default.new.run.journal c.loop-mailbox.invariant.sure
          (failed_sure c.in-Some.mailbox (mind_of c.loop-mailbox.run.process) (acted_with c.in_ok-acted.acted q) c.loop-mailbox.run.journal c.deliver_default.new.run.journal _ _ other c.in_ok-acted.ensures.carries.0);
    }

pub loop-mailbox-preserved-else-is_delivered : goal.loop-mailbox-preserved-else-is_delivered
loop-mailbox-preserved-else-is_delivered g c =
    let whole = try_each c.args.mailboxes.items (Failed NoName) (mind_of c.args.run.now.process) in
    let other = sym c.is_delivered.ensures ∙ c.if-is_delivered.false in
    let q = mind_of c.deliver_default.new.run.process in
    record {
      leads = mailbox_failed whole c.loop-mailbox.mailboxes.items c.pop_front.new.self.items c.in-Some.mailbox c.loop-mailbox.acted c.in_ok-acted.acted (mind_of c.loop-mailbox.run.process) q c.args.run.now.journal c.loop-mailbox.run.journal c.deliver_default.new.run.journal _ _ _ c.in-Some.ensures.items c.loop-mailbox.invariant.leads other c.in_ok-acted.ensures.carries.0;
      sure = sure_on c.args.run.now.journal c.loop-mailbox.run.journal c.deliver_default.new.run.journal c.loop-mailbox.invariant.sure
          (failed_sure c.in-Some.mailbox (mind_of c.loop-mailbox.run.process) (acted_with c.in_ok-acted.acted q) c.loop-mailbox.run.journal c.deliver_default.new.run.journal _ _ other c.in_ok-acted.ensures.carries.0);
    }

pub returns-clause-carries : goal.returns-clause-carries
returns-clause-carries g c =
    let whole = try_each c.args.mailboxes.items (Failed NoName) (mind_of c.args.run.now.process) in
    let none : c.loop-mailbox.mailboxes.items ≡ [] = search rules in
    (mailboxes_over whole c.loop-mailbox.mailboxes.items c.loop-mailbox.acted (mind_of c.loop-mailbox.run.process) c.args.run.now.journal c.loop-mailbox.run.journal _ _ none c.loop-mailbox.invariant.leads, tt)
