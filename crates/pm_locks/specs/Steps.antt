-- One step of the taking of a lock.
use Rattle.std.specs.Prelude.{ℕ, List}
use Rattle.pm_host.specs.Told.{HostView, Makes}
use Rattle.pm_journal.specs.Locking.{LockStepAsks}
use Rattle.pm_host.specs.declared.calls.Call.{Call}
use Rattle.pm_host.specs.declared.calls.Answer.{Answer}
use Rattle.pm_host.specs.declared.calls.Answer.TheVariants.{Look as AnswerLook, Create as AnswerCreate, Remove as AnswerRemove, Age as AnswerAge, Slept as AnswerSlept}
use Rattle.pm_journal.specs.declared.locking.LockStep.{LockStep}
use Rattle.pm_journal.specs.declared.locking.LockStep.TheVariants.{Create as StepCreate, Age as StepAge, Look as StepLook, Remove as StepRemove, Sleep as StepSleep, Finish}
use Rattle.pm_locks.specs.declared.steps.LockAnswer.{LockAnswer}
use Rattle.pm_locks.specs.declared.steps.LockAnswer.TheVariants.{Create, Age, Look, Remove, Slept}

-- what was heard, as an answer of a host
abbrev pub as_answer : LockAnswer → Answer
as_answer (Create made) = AnswerCreate made
as_answer (Age aged) = AnswerAge aged
as_answer (Look looked) = AnswerLook looked
as_answer (Remove removed) = AnswerRemove removed
as_answer Slept = AnswerSlept

-- the answer is one to this step
abbrev pub IsAnswerToLock : LockStep → LockAnswer → Type 0
IsAnswerToLock StepCreate (Create a) = Unit {0}
IsAnswerToLock StepAge (Age aged) = Unit {0}
IsAnswerToLock StepLook (Look looked) = Unit {0}
IsAnswerToLock StepRemove (Remove a) = Unit {0}
IsAnswerToLock (StepSleep seconds) Slept = Unit {0}
IsAnswerToLock step answer = ⊥

-- the host took the call of this step and gave this answer
pub record MakesLockStep (name : List ℕ) (step : LockStep) (answer : Answer) (before after : HostView) : Type 0 where
  pub call : Call
  pub asks : LockStepAsks name step call
  pub makes : Makes call answer before after

-- something is still to be asked
abbrev pub IsOpenStep : LockStep → Type 0
IsOpenStep (Finish end) = ⊥
IsOpenStep other = Unit {0}
