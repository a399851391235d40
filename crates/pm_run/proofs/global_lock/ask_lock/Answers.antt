use Rattle.std.proofs.Common.{Some, refl, rules}
use Rattle.pm_journal.specs.Locking.{lock_reply}
use Rattle.pm_journal.proofs.WantsMemory.{on_err, out_anywhere}
use Rattle.pm_meaning.specs.GlobalLock.{got_lock}
use Rattle.pm_meaning.specs.Minds.{mind_of}
use Rattle.pm_meaning.proofs.Choices.{carried}
use Rattle.pm_run.proofs.GlobalLemmas.{lock_then, got_held, global_mind, got_none}
use Rattle.pm_run.proofs.global_lock.ask_lock.Goals as goal

pub returns-in_err-noted : goal.returns-in_err-noted
returns-in_err-noted g c = record { carries = (search rules, on_err _ _ (out_anywhere _ _ _ _ refl)) }

pub returns-in_err-kept : goal.returns-in_err-kept
returns-in_err-kept g c = record { carries = (search rules, on_err _ _ (out_anywhere _ _ _ _ refl)) }

pub returns-in_err-shown : goal.returns-in_err-shown
returns-in_err-shown g c = record { carries = (search rules, on_err _ _ (out_anywhere _ _ _ _ refl)) }

pub returns-in_err-reserve : goal.returns-in_err-reserve
returns-in_err-reserve g c = record { carries = (search rules, on_err _ _ (out_anywhere _ _ _ _ refl)) }

pub returns-in_err-reserve-2 : goal.returns-in_err-reserve-2
returns-in_err-reserve-2 g c = record { carries = (search rules, on_err _ _ (out_anywhere _ _ _ _ c.reserve-2.ensures.same)) }

pub returns-in-Held : goal.returns-in-Held
returns-in-Held g c = record {
  carries = (
      let p = mind_of c.args.run.now.process in
      let q = record p { locks = c.take.new.held.names; global = Some c.args.name } in
      let with =
      global_mind c.args.name c.in_ok-noted.noted c.lock_rule-rule.result c.take.result c.in-Held.sleeps c.in-Held.forced c.reserve.new.self.names c.take.new.held.names p c.in_ok-noted.ensures c.in-Held.is c.reserve.ensures.same c.take.ensures.held in
      let told = carried _ (got_lock c.args.name p (lock_reply c.take.result)) _ _ _ _ _ _ (got_held c.args.name c.in_ok-shown.shown c.take.result c.in-Held.sleeps c.in-Held.forced p q c.in-Held.is c.in_ok-shown.ensures with) c.tell_forced.ensures.carries in
      lock_then c.args.name c.in_ok-noted.noted c.lock_rule-rule.result c.take.result p _ _ c.args.run.now.journal c.reserve-2.new.self c.take.new.journal c.tell_forced.new.run.journal _ _ _ c.in_ok-noted.ensures c.lock_rule-rule.ensures c.reserve-2.ensures.same c.take.ensures.notes told);
}

pub returns-in_default : goal.returns-in_default
returns-in_default g c = record {
  carries = (
      let p = mind_of c.args.run.now.process in
      let told = carried _ (got_lock c.args.name p (lock_reply c.take.result)) _ _ _ _ _ _ (got_none c.args.name c.in_ok-shown.shown c.in_ok-noted.noted c.lock_rule-rule.result c.take.result c.reserve.new.self.names c.take.new.held.names p c.in_default.not-Held c.in_ok-shown.ensures c.reserve.ensures.same c.take.ensures.held) c.tell_not_got.ensures.carries in
      lock_then c.args.name c.in_ok-noted.noted c.lock_rule-rule.result c.take.result p _ _ c.args.run.now.journal c.reserve-2.new.self c.take.new.journal c.tell_not_got.new.run.journal _ _ _ c.in_ok-noted.ensures c.lock_rule-rule.ensures c.reserve-2.ensures.same c.take.ensures.notes told);
}
