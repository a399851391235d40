-- The taking of a lock as a state machine: its rule, and where it stands.
use Rattle.pm_host.specs.declared.calls.Answer.{Answer}
use Rattle.pm_journal.specs.Locking.{lock_heard, no_tally}
use Rattle.pm_journal.specs.declared.locking.LockRule.{LockRule}
use Rattle.pm_journal.specs.declared.locking.LockState.{LockState}
use Rattle.pm_journal.specs.declared.locking.LockState.TheVariants.{Trying}

-- by which rule the lock is taken, and where its taking stands
pub record Machine : Type 0 where
  pub rule : LockRule
  pub at : LockState

-- a taking by this rule that has asked nothing
abbrev pub taking : LockRule → Machine
taking rule = record { rule = rule; at = Trying no_tally }

-- the taking after an answer
abbrev pub taking_heard : Machine → Answer → Machine
taking_heard m answer = record { rule = m.rule; at = lock_heard m.rule m.at answer }
