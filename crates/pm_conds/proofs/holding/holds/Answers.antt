use Rattle.std.proofs.Common.{◌≡◌, [], refl, rules, ap, sym, ◌∙◌}
use Rattle.pm_journal.proofs.WantsMemory.{out_anywhere}
use Rattle.pm_journal.specs.Plan.{Plan}
use Rattle.pm_meaning.specs.Apart.{judged_of, state_of}
use Rattle.pm_meaning.specs.Judging.{Held, held_with, holding}
use Rattle.pm_meaning.specs.Minds.{Mind, mind_of}
use Rattle.pm_meaning.proofs.Choices.{carried}
use Rattle.pm_meaning.proofs.Sequences.{carries_seen}
use Rattle.pm_conds.specs.Holding.{held_alone, seen_alone}
use Rattle.pm_conds.proofs.HoldLemmas.{verdict_holds}
use Rattle.pm_conds.proofs.holding.holds.Goals as goal

-- the process by what conditions look at
abbrev alone : Mind → Mind
alone p = record p { host_name = []; placed = 0 }

pub returns-in-Err-clause-holds : goal.returns-in-Err-clause-holds
returns-in-Err-clause-holds g c told is = out_anywhere _ _ _ _ (ap (λ j. j.entries) c.in-Err.ensures.unmoved)

pub returns-clause-holds : goal.returns-clause-holds
returns-clause-holds g c told is =
    let before = c.args.mind.now in
    let p = mind_of c.hold_lent-held.result.paused.process in
    let plan : Mind → Plan Held = λ m. holding c.args.conditions.now c.args.flags.now m in
    let taken : mind_of c.in-Ok.paused.process ≡ judged_of before = c.in-Ok.ensures.state ∙ (ap (λ h. state_of before h c.nothing_shared-shared.result.placed) c.nothing_shared-shared.ensures.host ∙ ap (state_of before []) c.nothing_shared-shared.ensures.placed) in
    let back : judged_of c.resume.new.self ≡ seen_alone p = ap alone c.resume.ensures.state in
    let asked = carried (plan (mind_of c.in-Ok.paused.process)) (plan (judged_of before)) (λ held. held_with held p) _ _ _ _ _ (ap plan taken) (rw c.in-Ok.ensures.journal at c.hold_lent-held.ensures.carries told is) in
    let seen = carries_seen (plan (judged_of before)) held_alone (λ held. held_with held p) (λ held. held_with held (judged_of c.resume.new.self)) _ _ _ _ _ (λ held. ap (held_with held) (sym back)) asked in
    let host : c.host-1.given.0 ≡ c.hold_lent-held.new.asked.host.now = search rules in
    let err : c.err-1.given.0 ≡ c.hold_lent-held.new.asked.err.now = search rules in
    rw (c.answered.ensures, c.resume.ensures.journal, host, err) (verdict_holds _ _ _ _ _ _ _ _ _ seen)
