use Rattle.std.proofs.Common.{subst}
use Rattle.pm_journal.specs.Locking.{TakesLock}
use Rattle.formail_extra.specs.Stepping.{cache_rule, locked}
use Rattle.formail_extra.proofs.stepping.step.Goals as goal

pub returns-in-Held-clause-steps : goal.returns-in-Held-clause-steps
returns-in-Held-clause-steps g c =
    let takes = subst (λ e. TakesLock cache_rule c.args.cache.now.lock e (g.H.Host.told c.args.host.now) (g.H.Host.told c.take.new.host)) c.in-Held.is c.take.ensures.takes in
    locked c.in-Held.sleeps c.in-Held.forced _ takes c.under_lock.ensures.under
