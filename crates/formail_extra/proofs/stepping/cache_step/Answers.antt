use Rattle.std.proofs.Common.{arith, subst}
use Rattle.formail_extra.proofs.Faults.{failed_rose}
use Rattle.formail_extra.proofs.MadeSteps.{IsMade, steps_made, made_end}
use Rattle.formail_extra.proofs.TreeSteps.{steps_right}
use Rattle.formail_extra.specs.Stepping.{cache_at, Steps}
use Rattle.formail_extra.proofs.stepping.cache_step.Goals as goal

pub returns-in-Ok-clause-steps : goal.returns-in-Ok-clause-steps
returns-in-Ok-clause-steps g c = made_end _ c.in-Ok.end c.in-Ok.ensures.ok

pub returns-in-Ok-clause-tree : goal.returns-in-Ok-clause-tree
returns-in-Ok-clause-tree g c = made_end _ c.in-Ok.end (steps_right _ _ _ _ _ (omega (arith, c.requires.most)) c.requires.ids c.in-Ok.ensures.ok)

pub returns-in-Ok-clause-failed : goal.returns-in-Ok-clause-failed
returns-in-Ok-clause-failed g c = λ failed. failed_rose (cache_at c.args.name.now c.args.maxlen) c.args.ids.now _ _
    (subst (λ e. Steps (cache_at c.args.name.now c.args.maxlen) c.args.ids.now e (g.H.Host.told c.args.host.now) (g.H.Host.told c.try_step.new.host)) failed c.in-Ok.ensures.ok)

pub returns-in-Ok-clause-memory : goal.returns-in-Ok-clause-memory
returns-in-Ok-clause-memory g c = λ memory. absurd (subst IsMade memory (steps_made _ _ _ _ _ c.in-Ok.ensures.ok))
