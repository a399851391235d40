use Rattle.std.proofs.Common.{◌≡◌}
use Rattle.pm_journal.specs.Locking.{lock_left, lock_rule}
use Rattle.pm_locks.proofs.Taking.{Taking}
use Rattle.pm_locks.proofs.take.take_lock.Given as goal

abbrev pub invariant-loop-end : goal.invariant-loop-end
invariant-loop-end g l = (l.core.rule ≡ (lock_rule l.sleep l.limit l.suspend l.tries)) × Taking (lock_rule l.sleep l.limit l.suspend l.tries) l.name l.core.at (g.H.Host.told l.fn.host) (g.H.Host.told l.host)

abbrev pub decreases-loop-end : goal.decreases-loop-end
decreases-loop-end g l = lock_left l.core.rule l.core.at
