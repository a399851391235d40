use Rattle.std.proofs.Common.{◌≡◌, [], rules, sym, ◌∙◌}
use Rattle.pm_journal.proofs.WalkJoin.{reaches_itself}
use Rattle.pm_journal.proofs.WantsMemory.{on_err}
use Rattle.pm_meaning.specs.Minds.{mind_of}
use Rattle.pm_meaning.specs.Running.{FallingOff, step}
use Rattle.pm_meaning.proofs.Choices.{ok_map, err_map}
use Rattle.pm_meaning.specs.Delivering.{no_flags}
use Rattle.pm_run.proofs.MayLemmas.{delivered_none}
use Rattle.pm_run.proofs.FallLemmas.{mailbox_on, mailbox_ends, mailbox_wants, none_on, none_wants}
use Rattle.pm_run.proofs.falling_off.try_each.Goals as goal

pub loop-mailbox-init : goal.loop-mailbox-init
loop-mailbox-init g c = record { reaches = reaches_itself step _ _ _ }

pub returns-in_err-acted : goal.returns-in_err-acted
returns-in_err-acted g c = record {
  walks = (
      let start = FallingOff c.args.mailboxes.items (mind_of c.args.run.now.process) in
      (search rules, on_err _ _ (mailbox_wants start c.loop-mailbox.mailboxes.items c.pop_front.new.self.items c.in-Some.mailbox (mind_of c.loop-mailbox.run.process) c.args.run.now.journal c.loop-mailbox.run.journal c.try_mailbox.new.run.journal _ _ _ c.in-Some.ensures.items c.loop-mailbox.invariant.reaches c.in_err-acted.ensures.carries.1 (delivered_none no_flags _ _ c.in_err-acted.ensures.sure))));
}

pub returns-then-is_delivered : goal.returns-then-is_delivered
returns-then-is_delivered g c = record {
  walks = (
      let start = FallingOff c.args.mailboxes.items (mind_of c.args.run.now.process) in
      (mailbox_ends start c.loop-mailbox.mailboxes.items c.pop_front.new.self.items c.in-Some.mailbox (mind_of c.loop-mailbox.run.process) (mind_of c.try_mailbox.new.run.process) c.in_ok-acted.acted c.args.run.now.journal c.loop-mailbox.run.journal c.try_mailbox.new.run.journal _ _ _ c.in-Some.ensures.items c.loop-mailbox.invariant.reaches (sym c.is_delivered.ensures ∙ c.if-is_delivered.true) c.in_ok-acted.ensures.carries.0, tt));
}

pub loop-mailbox-preserved : goal.loop-mailbox-preserved
loop-mailbox-preserved g c =
    let start = FallingOff c.args.mailboxes.items (mind_of c.args.run.now.process) in
    record {
      reaches = mailbox_on start c.loop-mailbox.mailboxes.items c.pop_front.new.self.items c.in-Some.mailbox (mind_of c.loop-mailbox.run.process) (mind_of c.try_mailbox.new.run.process) c.in_ok-acted.acted c.args.run.now.journal c.loop-mailbox.run.journal c.try_mailbox.new.run.journal _ _ _ c.in-Some.ensures.items c.loop-mailbox.invariant.reaches (sym c.is_delivered.ensures ∙ c.if-is_delivered.false) c.in_ok-acted.ensures.carries.0;
    }

pub returns : goal.returns
returns g c = record {
  walks = (
      let start = FallingOff c.args.mailboxes.items (mind_of c.args.run.now.process) in
      let p = mind_of c.loop-mailbox.run.process in
      let none : c.loop-mailbox.mailboxes.items ≡ [] = search rules in (
        ok_map _ _ _ (λ end h. none_on start c.loop-mailbox.mailboxes.items p (mind_of c.lose.new.run.process) end c.args.run.now.journal c.loop-mailbox.run.journal c.lose.new.run.journal _ _ _ none c.loop-mailbox.invariant.reaches h) c.lose.ensures.carries.0,
        err_map _ _ _ (λ h. none_wants start c.loop-mailbox.mailboxes.items p c.args.run.now.journal c.loop-mailbox.run.journal c.lose.new.run.journal _ _ _ none c.loop-mailbox.invariant.reaches h) c.lose.ensures.carries.1,
      ));
}
