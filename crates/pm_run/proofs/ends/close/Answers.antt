use Rattle.std.proofs.Common.{rules}
use Rattle.pm_journal.proofs.WantsMemory.{on_err}
use Rattle.pm_meaning.specs.Running.{Over, ending_of}
use Rattle.pm_meaning.specs.Minds.{mind_of}
use Rattle.pm_run.proofs.EndLemmas.{over_traps, over_wants, trap_unlocks, trap_wants, closes, unlock_wants}
use Rattle.pm_run.proofs.ends.close.Goals as goal

pub returns-in_err-tell_delivery : goal.returns-in_err-tell_delivery
returns-in_err-tell_delivery g c = record { walks = (search rules, on_err _ _ (over_wants c.args.end (mind_of c.args.run.now.process) _ _ _ _ c.in_err-tell_delivery.ensures.carries.1 c.in_err-tell_delivery.ensures.told)) }

pub returns-in_err-code : goal.returns-in_err-code
returns-in_err-code g c = record {
  walks = (
      let p = mind_of c.args.run.now.process in
      let first = over_traps c.args.end p _ _ _ _ c.in_ok-tell_delivery.ensures.carries.0 in
      (search rules, on_err _ _ (trap_wants (Over c.args.end p) c.args.end p _ _ _ _ _ _ first (rw c.tell_delivery.ensures.same at c.in_err-code.ensures.carries.1) (rw c.tell_delivery.ensures.same at c.in_err-code.ensures.set))));
}

pub returns-in_err-give_lock : goal.returns-in_err-give_lock
returns-in_err-give_lock g c = record {
  walks = (
      let p = mind_of c.args.run.now.process in
      let q = mind_of c.trap.new.run.process in
      let first = over_traps c.args.end p _ _ _ _ c.in_ok-tell_delivery.ensures.carries.0 in
      let second = trap_unlocks (Over c.args.end p) c.args.end c.in_ok-code.code p q _ _ _ _ _ _ first (rw c.tell_delivery.ensures.same at c.in_ok-code.ensures.carries.0) in
      (search rules, on_err _ _ (unlock_wants (Over c.args.end p) (ending_of c.args.end c.in_ok-code.code q) q _ _ _ _ _ _ second c.in_err-give_lock.ensures.carries.1 c.in_err-give_lock.ensures.stuck)));
}

pub returns : goal.returns
returns g c = record {
  walks = (
      let p = mind_of c.args.run.now.process in
      let q = mind_of c.trap.new.run.process in
      let r = mind_of c.give_lock.new.run.process in
      let first = over_traps c.args.end p _ _ _ _ c.in_ok-tell_delivery.ensures.carries.0 in
      let second = trap_unlocks (Over c.args.end p) c.args.end c.in_ok-code.code p q _ _ _ _ _ _ first (rw c.tell_delivery.ensures.same at c.in_ok-code.ensures.carries.0) in
      (closes (Over c.args.end p) c.args.end c.in_ok-code.code c.exit_status-status.result q r _ _ _ _ _ _ c.exit_status-status.ensures second c.in_ok-give_lock.ensures.carries.0, tt));
}
