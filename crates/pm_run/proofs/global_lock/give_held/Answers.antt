use Rattle.std.proofs.Common.{[], append-nil, None, rules, sym, ap, ◌∙◌}
use Rattle.pm_journal.specs.Entries.{unlock_reply}
use Rattle.pm_journal.proofs.WantsMemory.{on_err}
use Rattle.pm_meaning.specs.Minds.{mind_of}
use Rattle.pm_run.proofs.MayLemmas.{stuck_may}
use Rattle.pm_run.proofs.GlobalLemmas.{stuck_told, stuck_out, unlocked_out}
use Rattle.pm_run.proofs.global_lock.give_held.Goals as goal

pub returns-in_err-line-clause-carries : goal.returns-in_err-line-clause-carries
returns-in_err-line-clause-carries g c =
    let p = mind_of c.args.run.now.process in
    (search rules, on_err _ _ (unlocked_out c.args.name.now p (unlock_reply c.give-removed.result) _ _ _ _ c.give-removed.ensures.notes))

pub returns-in_err-tell-clause-carries : goal.returns-in_err-tell-clause-carries
returns-in_err-tell-clause-carries g c =
    let p = mind_of c.args.run.now.process in
    let r = record p { locks = c.give-removed.new.held.names; global = None } in
    (search rules, on_err _ _ (stuck_out c.args.name.now c.in_ok-line.line p r (unlock_reply c.give-removed.result) c.args.run.now.journal c.give-removed.new.journal c.tell.new.run.journal _ _ _ c.give-removed.ensures.notes (sym c.is_stuck.ensures ∙ c.if-not-is_stuck.false) c.in_ok-line.ensures (ap (λ l. record p { locks = l; global = None }) c.give-removed.ensures.names) c.in_err-tell.ensures.carries.1))

pub returns-clause-carries : goal.returns-clause-carries
returns-clause-carries g c =
    let p = mind_of c.args.run.now.process in
    let r = record p { locks = c.give-removed.new.held.names; global = None } in rw c.tell.ensures.same (
      stuck_told c.args.name.now c.in_ok-line.line p r (unlock_reply c.give-removed.result) c.args.run.now.journal c.give-removed.new.journal c.tell.new.run.journal _ _ _ c.give-removed.ensures.notes (sym c.is_stuck.ensures ∙ c.if-not-is_stuck.false) c.in_ok-line.ensures
          (ap (λ l. record p { locks = l; global = None }) c.give-removed.ensures.names) c.in_ok-tell.ensures.carries.0,
      tt,
    )

pub returns-in_err-line-clause-stuck : goal.returns-in_err-line-clause-stuck
returns-in_err-line-clause-stuck g c =
    on_err _ _ (stuck_may c.args.name.now (unlock_reply c.give-removed.result) c.args.run.now.journal c.give-removed.new.journal c.give-removed.new.journal _ _ [] c.give-removed.ensures.notes (sym c.is_stuck.ensures ∙ c.if-not-is_stuck.false) (sym (append-nil _)))

pub returns-in_err-tell-clause-stuck : goal.returns-in_err-tell-clause-stuck
returns-in_err-tell-clause-stuck g c =
    let out = c.in_err-tell.ensures.carries.1 in
    on_err _ _ (stuck_may c.args.name.now (unlock_reply c.give-removed.result) c.args.run.now.journal c.give-removed.new.journal c.tell.new.run.journal _ _ out.more c.give-removed.ensures.notes (sym c.is_stuck.ensures ∙ c.if-not-is_stuck.false) out.entries)
