use Rattle.std.proofs.Common.{refl, rules, sym, ap, subst}
use Rattle.pm_journal.proofs.WantsMemory.{on_err, out_anywhere}
use Rattle.pm_meaning.specs.Minds.{mind_of}
use Rattle.pm_perform.specs.Copies.{AllShown}
use Rattle.pm_perform.proofs.AttemptLemmas.{attempted_locked, attempted_locked_out, locked_mind}
use Rattle.pm_perform.proofs.FileLemmas.{copies_locked, copies_shown}
use Rattle.pm_perform.proofs.FoundLemmas.{grown_none, grown_act, grown_out, grown_on, none_new, met_none, met_on}
use Rattle.pm_perform.proofs.attempting.file_locked.Goals as goal

pub returns-in_err-noted-clause-carries : goal.returns-in_err-noted-clause-carries
returns-in_err-noted-clause-carries g c = (search rules, on_err _ _ (out_anywhere _ _ _ _ refl))

pub returns-in_err-kept-clause-carries : goal.returns-in_err-kept-clause-carries
returns-in_err-kept-clause-carries g c = (search rules, on_err _ _ (out_anywhere _ _ _ _ refl))

pub returns-in_err-copies-clause-carries : goal.returns-in_err-copies-clause-carries
returns-in_err-copies-clause-carries g c = (search rules, on_err _ _ (out_anywhere _ _ _ _ refl))

pub returns-in_err-reserve-clause-carries : goal.returns-in_err-reserve-clause-carries
returns-in_err-reserve-clause-carries g c = (search rules, on_err _ _ (out_anywhere _ _ _ _ refl))

pub returns-in_err-room-clause-carries : goal.returns-in_err-room-clause-carries
returns-in_err-room-clause-carries g c = (search rules, on_err _ _ (out_anywhere _ _ _ _ refl))

pub returns-in_err-reserve-2-clause-carries : goal.returns-in_err-reserve-2-clause-carries
returns-in_err-reserve-2-clause-carries g c = (search rules, on_err _ _ (out_anywhere _ _ _ _ c.reserve-2.ensures.same))

pub file_each-requires-clause-shown : goal.file_each-requires-clause-shown
file_each-requires-clause-shown g c = subst AllShown (sym c.in_ok-copies.ensures.copies) (copies_shown c.args.flags (mind_of c.args.run.now.process) c.args.destinations.now)

pub returns-in_err-filed-in-Held-clause-carries : goal.returns-in_err-filed-in-Held-clause-carries
returns-in_err-filed-in-Held-clause-carries g c =
    let p = mind_of c.args.run.now.process in
    let with =
    locked_mind c.args.name c.in_ok-noted.noted c.lock_rule-rule.result c.take.result c.in-Held.sleeps c.in-Held.forced c.reserve.new.self.names c.take.new.held.names p c.in_ok-noted.ensures c.in-Held.is (rw c.copies_for.ensures.same at c.reserve.ensures.same) c.take.ensures.held in
    let files = (rw c.copies_for.ensures.same at c.in_err-filed-in-Held.ensures.carries) c.args.destinations.now (copies_locked c.args.flags c.args.destinations.now c.in_ok-copies.copies.items p c.take.new.held.names c.in_ok-copies.ensures.copies) in (
      search rules,
      on_err _ _ (attempted_locked_out c.args.flags c.args.destinations.now c.args.name c.in_ok-noted.noted c.lock_rule-rule.result c.take.result c.in-Held.sleeps c.in-Held.forced p (record p { locks = c.take.new.held.names })
          c.args.run.now.journal c.reserve-2.new.self c.take.new.journal c.file_each.new.run.journal _ _ _ c.in_ok-noted.ensures c.lock_rule-rule.ensures
          c.in-Held.is c.reserve-2.ensures.same c.take.ensures.notes with files.1),
    )

pub returns-in_ok-filed-in-Held-clause-carries : goal.returns-in_ok-filed-in-Held-clause-carries
returns-in_ok-filed-in-Held-clause-carries g c =
    let p = mind_of c.args.run.now.process in
    let r = mind_of c.file_each.new.run.process in
    let with =
    locked_mind c.args.name c.in_ok-noted.noted c.lock_rule-rule.result c.take.result c.in-Held.sleeps c.in-Held.forced c.reserve.new.self.names c.take.new.held.names p c.in_ok-noted.ensures c.in-Held.is (rw c.copies_for.ensures.same at c.reserve.ensures.same) c.take.ensures.held in
    let files = (rw c.copies_for.ensures.same at c.in_ok-filed-in-Held.ensures.carries) c.args.destinations.now (copies_locked c.args.flags c.args.destinations.now c.in_ok-copies.copies.items p c.take.new.held.names c.in_ok-copies.ensures.copies) in (
      attempted_locked c.args.flags c.args.destinations.now c.args.name c.in_ok-noted.noted c.lock_rule-rule.result c.take.result c.in-Held.sleeps c.in-Held.forced p (record p { locks = c.take.new.held.names }) r _
          c.in_ok-filed-in-Held.filed c.give-removed.result c.is_stuck-stuck.result c.args.run.now.journal c.reserve-2.new.self c.take.new.journal c.file_each.new.run.journal c.give-removed.new.journal _ _ _ _ c.in_ok-noted.ensures c.lock_rule-rule.ensures
          c.in-Held.is c.reserve-2.ensures.same c.take.ensures.notes with files.0 c.give-removed.ensures.notes c.is_stuck-stuck.ensures (ap (λ l. record r { locks = l }) c.give-removed.ensures.names),
      tt,
    )

pub returns-in_err-noted-clause-untouched : goal.returns-in_err-noted-clause-untouched
returns-in_err-noted-clause-untouched g c = on_err _ _ (none_new c.args.run.now.journal c.args.run.now.journal refl)

pub returns-in_err-kept-clause-untouched : goal.returns-in_err-kept-clause-untouched
returns-in_err-kept-clause-untouched g c = on_err _ _ (none_new c.args.run.now.journal c.args.run.now.journal refl)

pub returns-in_err-copies-clause-untouched : goal.returns-in_err-copies-clause-untouched
returns-in_err-copies-clause-untouched g c = on_err _ _ (none_new c.args.run.now.journal c.args.run.now.journal refl)

pub returns-in_err-reserve-clause-untouched : goal.returns-in_err-reserve-clause-untouched
returns-in_err-reserve-clause-untouched g c = on_err _ _ (none_new c.args.run.now.journal c.args.run.now.journal refl)

pub returns-in_err-room-clause-untouched : goal.returns-in_err-room-clause-untouched
returns-in_err-room-clause-untouched g c = on_err _ _ (none_new c.args.run.now.journal c.args.run.now.journal refl)

pub returns-in_err-reserve-2-clause-untouched : goal.returns-in_err-reserve-2-clause-untouched
returns-in_err-reserve-2-clause-untouched g c = on_err _ _ (none_new c.args.run.now.journal c.reserve-2.new.self c.reserve-2.ensures.same)

pub returns-in_err-filed-in-Held-clause-untouched : goal.returns-in_err-filed-in-Held-clause-untouched
returns-in_err-filed-in-Held-clause-untouched g c =
    let p = mind_of c.args.run.now.process in
    let k = (rw c.copies_for.ensures.same at c.in_err-filed-in-Held.ensures.carries) c.args.destinations.now (copies_locked c.args.flags c.args.destinations.now c.in_ok-copies.copies.items p c.take.new.held.names c.in_ok-copies.ensures.copies) in
    let x = c.args.run.now.journal in
    let w = c.reserve-2.new.self in
    let y = c.take.new.journal in
    let z = c.file_each.new.run.journal in
    let taken = grown_on x w y (grown_none x w c.reserve-2.ensures.same) (grown_act _ _ w y _ _ c.take.ensures.notes) in
    on_err _ _ (met_none x z (met_on x y z taken (grown_out _ y z _ _ k.1) c.in_err-filed-in-Held.ensures.met))
