use Rattle.std.proofs.Common.{refl, rules, ap}
use Rattle.pm_journal.proofs.WantsMemory.{on_err}
use Rattle.pm_meaning.specs.Minds.{mind_of}
use Rattle.pm_perform.proofs.AttemptLemmas.{locked_mind}
use Rattle.pm_perform.proofs.TryLemmas.{tried_locked, tried_locked_out}
use Rattle.pm_perform.proofs.trying.try_locked.Goals as goal

pub returns-in_err-outcome-in-Held-clause-carries : goal.returns-in_err-outcome-in-Held-clause-carries
returns-in_err-outcome-in-Held-clause-carries g c =
    let p = mind_of c.args.run.now.process in
    let r = c.args.request in
    let with =
    locked_mind r.name r.noted c.lock_rule-rule.result c.take.result c.in-Held.sleeps c.in-Held.forced c.args.run.now.process.locks.names c.take.new.held.names p c.requires.noted c.in-Held.is refl c.take.ensures.held in
    λ work is. (
      search rules,
      on_err _ _ (tried_locked_out work r.name r.noted c.lock_rule-rule.result c.take.result c.in-Held.sleeps c.in-Held.forced p (record p { locks = c.take.new.held.names })
          c.args.run.now.journal c.args.run.now.journal c.take.new.journal c.carry.new.run.journal _ _ _ c.requires.noted c.lock_rule-rule.ensures c.in-Held.is refl c.take.ensures.notes with (c.in_err-outcome-in-Held.ensures.carries work is).1),
    )

pub returns-in_ok-outcome-in-Held-clause-carries : goal.returns-in_ok-outcome-in-Held-clause-carries
returns-in_ok-outcome-in-Held-clause-carries g c =
    let p = mind_of c.args.run.now.process in
    let q = mind_of c.carry.new.run.process in
    let r = c.args.request in
    let with =
    locked_mind r.name r.noted c.lock_rule-rule.result c.take.result c.in-Held.sleeps c.in-Held.forced c.args.run.now.process.locks.names c.take.new.held.names p c.requires.noted c.in-Held.is refl c.take.ensures.held in
    λ work is. (
      tried_locked work r.name r.noted c.lock_rule-rule.result c.take.result c.in-Held.sleeps c.in-Held.forced p (record p { locks = c.take.new.held.names }) q _ c.in_ok-outcome-in-Held.outcome c.give-removed.result c.is_stuck-stuck.result
          c.args.run.now.journal c.args.run.now.journal c.take.new.journal c.carry.new.run.journal c.give-removed.new.journal _ _ _ _ c.requires.noted c.lock_rule-rule.ensures c.in-Held.is refl c.take.ensures.notes with
          (c.in_ok-outcome-in-Held.ensures.carries work is).0 c.give-removed.ensures.notes c.is_stuck-stuck.ensures (ap (λ l. record q { locks = l }) c.give-removed.ensures.names),
      tt,
    )
