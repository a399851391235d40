-- The calls of a host as the steps of a taking.
use Rattle.std.specs.Prelude.{◌≡◌, ℕ, List}
use Rattle.pm_host.specs.Told.{HostView}
use Rattle.pm_host.specs.Runs.{Ran, Transitions}
use Rattle.pm_host.specs.declared.calls.Call.{Call}
use Rattle.pm_host.specs.declared.calls.Logged.{Logged}
use Rattle.pm_journal.specs.Locking.{LockStepAsks, lock_step}
use Rattle.pm_journal.specs.declared.locking.LockEnd.{LockEnd}
use Rattle.pm_journal.specs.declared.locking.LockStep.TheVariants.{Finish}
use Rattle.pm_locks.specs.Machine.{Machine, taking_heard}

-- the call by which this taking goes on
abbrev pub TakingAsks : List ℕ → Machine → Call → Type 0
TakingAsks name m call = LockStepAsks name (lock_step m.at) call

-- the calls that the host took are the steps of this taking with their answers, up to its end
pub record RunsTaking (name : List ℕ) (begun : Machine) (end : LockEnd) (before after : HostView) : Type 0 where
  pub calls : List Logged
  pub ran : Ran calls before after
  pub last : Machine
  pub walk : Transitions (TakingAsks name) taking_heard begun calls last
  pub ends : lock_step last.at ≡ Finish end
