use Rattle.std.proofs.Common.{◌≡◌, rules, ap, sym}
use Rattle.pm_journal.proofs.WantsMemory.{out_anywhere}
use Rattle.pm_meaning.specs.Apart.{acted_with, bare_end}
use Rattle.pm_meaning.specs.Minds.{mind_of}
use Rattle.pm_meaning.specs.Running.{fall_back}
use Rattle.pm_meaning.proofs.Choices.{carried}
use Rattle.pm_meaning.proofs.Sequences.{carries_seen}
use Rattle.pm_perform.proofs.CalmLemmas.{sure_none}
use Rattle.pm_actions.specs.Performing.{state_in}
use Rattle.pm_actions.proofs.PerformLemmas.{performs_of, wanting}
use Rattle.pm_actions.proofs.performing.deliver_default.Goals as goal

pub returns-in-Err-clause-performs : goal.returns-in-Err-clause-performs
returns-in-Err-clause-performs g c told is = out_anywhere _ _ _ _ (ap (λ j. j.entries) c.in-Err.ensures.unmoved)

pub returns-in-Err-clause-sure : goal.returns-in-Err-clause-sure
returns-in-Err-clause-sure g c is = sure_none _ _ _ (ap (λ j. j.entries) c.in-Err.ensures.unmoved)

pub returns-in-Ok-clause-performs : goal.returns-in-Ok-clause-performs
returns-in-Ok-clause-performs g c told is =
    let p = state_in c.args.mind.now c.args.shared.now in
    let q = mind_of c.fall_back_lent-acted.result.paused.process in
    let asked = carried (fall_back (mind_of c.in-Ok.paused.process)) (fall_back p) (λ acted. acted_with acted q) _ _ _ _ _ (ap fall_back c.in-Ok.ensures.state) (rw c.in-Ok.ensures.journal at c.fall_back_lent-acted.ensures.carries told is) in
    let seen = carries_seen (fall_back p) bare_end (λ acted. acted_with acted q) (λ acted. acted_with acted (state_in c.resume.new.self c.resume.new.shared)) _ _ _ _ _ (λ acted. ap (acted_with acted) (sym c.resume.ensures.state)) asked in
    let host : c.host-1.given.0 ≡ c.fall_back_lent-acted.new.objects.host.now = search rules in
    let err : c.err-1.given.0 ≡ c.fall_back_lent-acted.new.objects.err.now = search rules in
    rw (c.answered.ensures, c.resume.ensures.journal, host, err) (performs_of _ _ _ _ _ _ _ seen)

pub returns-in-Ok-clause-sure : goal.returns-in-Ok-clause-sure
returns-in-Ok-clause-sure g c = rw (c.answered.ensures, c.resume.ensures.journal) (wanting _ _ (rw c.in-Ok.ensures.journal at c.fall_back_lent-acted.ensures.sure))
