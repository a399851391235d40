use Rattle.std.proofs.Common.{◌≡◌, rules, ap, sym}
use Rattle.pm_journal.proofs.WantsMemory.{out_anywhere}
use Rattle.pm_meaning.specs.Apart.{acted_with, bare_end}
use Rattle.pm_meaning.specs.Minds.{mind_of}
use Rattle.pm_meaning.proofs.Choices.{carried}
use Rattle.pm_meaning.proofs.Sequences.{carries_seen}
use Rattle.pm_perform.proofs.CalmLemmas.{sure_none}
use Rattle.pm_actions.specs.Performing.{state_in}
use Rattle.pm_actions.specs.Works.{action_of}
use Rattle.pm_actions.proofs.PerformLemmas.{performs_of, wanting}
use Rattle.pm_actions.proofs.performing.perform.Goals as goal

pub returns-in-Err-clause-performs : goal.returns-in-Err-clause-performs
returns-in-Err-clause-performs g c = out_anywhere _ _ _ _ (ap (λ j. j.entries) c.in-Err.ensures.unmoved)

pub returns-in-Err-clause-sure : goal.returns-in-Err-clause-sure
returns-in-Err-clause-sure g c is = sure_none _ _ _ (ap (λ j. j.entries) c.in-Err.ensures.unmoved)

pub returns-in-Ok-clause-performs : goal.returns-in-Ok-clause-performs
returns-in-Ok-clause-performs g c =
    let p = state_in c.args.mind.now c.args.shared.now in
    let plan = action_of c.args.recipe.now in
    let q = mind_of c.act_lent-acted.result.paused.process in
    let asked = carried (plan (mind_of c.in-Ok.paused.process)) (plan p) (λ acted. acted_with acted q) _ _ _ _ _ (ap plan c.in-Ok.ensures.state) (rw c.in-Ok.ensures.journal at c.act_lent-acted.ensures.carries) in
    let seen = carries_seen (plan p) bare_end (λ acted. acted_with acted q) (λ acted. acted_with acted (state_in c.resume.new.self c.resume.new.shared)) _ _ _ _ _ (λ acted. ap (acted_with acted) (sym c.resume.ensures.state)) asked in
    let host : c.host-1.given.0 ≡ c.act_lent-acted.new.objects.host.now = search rules in
    let out : c.out-1.given.0 ≡ c.act_lent-acted.new.objects.out.now = search rules in
    let err : c.err-1.given.0 ≡ c.act_lent-acted.new.objects.err.now = search rules in
    let host_lent : c.lend-objects.result.host.now ≡ c.args.host.now = search rules in
    let out_lent : c.lend-objects.result.out.now ≡ c.args.out.now = search rules in
    let err_lent : c.lend-objects.result.err.now ≡ c.args.err.now = search rules in
    rw (c.answered.ensures, c.resume.ensures.journal, host, out, err) (performs_of _ _ _ _ _ _ _ (rw (host_lent, out_lent, err_lent) at seen))

pub returns-in-Ok-clause-sure : goal.returns-in-Ok-clause-sure
returns-in-Ok-clause-sure g c = rw (c.answered.ensures, c.resume.ensures.journal) (wanting _ _ (rw c.in-Ok.ensures.journal at c.act_lent-acted.ensures.sure))
