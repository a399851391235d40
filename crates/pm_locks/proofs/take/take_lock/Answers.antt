use Rattle.std.proofs.Common.{rules, ◌≡◌}
use Rattle.pm_journal.specs.Locking.{lock_step}
use Rattle.pm_journal.specs.declared.locking.LockStep.TheVariants.{Finish}
use Rattle.pm_locks.proofs.Taking.{goes_on, has_run}
use Rattle.pm_locks.proofs.take.take_lock.Goals as goal

pub loop-end-preserved : goal.loop-end-preserved
loop-end-preserved g c =
    let made = rw (c.as_str.ensures.same, c.next-step.ensures) at c.ask.ensures.makes in
    (search rules, rw (c.heard.ensures.heard, c.loop-end.invariant.0) (goes_on _ _ _ _ _ _ _ c.loop-end.invariant.1 made))

pub returns-in-Finish-clause-steps : goal.returns-in-Finish-clause-steps
returns-in-Finish-clause-steps g c =
    let ends : lock_step c.loop-end.core.at ≡ Finish c.in-Finish.end = search rules in
    has_run _ _ _ _ _ _ c.loop-end.invariant.1 ends
