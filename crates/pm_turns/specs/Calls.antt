-- The calls that a writer makes, and those of a delivery.
use Rattle.std.specs.Prelude.{◌≡◌, ℕ, Bool, true, cond, nat_eq, List, [], ◌∷◌, ◌++◌, length, drop, Option, Some, None, slice_get}
use Rattle.pm_host.specs.Runs.{logged, Transitions}
use Rattle.pm_host.specs.declared.answers.Removed.{Removed}
use Rattle.pm_host.specs.declared.calls.Call.TheVariants.{Look as CallLook, Create as CallCreate, Append as CallAppend, Sync as CallSync, Cut as CallCut, Remove as CallRemove, Age as CallAge, Sleep as CallSleep}
use Rattle.pm_host.specs.declared.calls.Answer.{Answer}
use Rattle.pm_host.specs.declared.calls.Answer.TheVariants.{Remove as AnswerRemove}
use Rattle.pm_host.specs.declared.calls.Logged.{Logged}
use Rattle.pm_journal.specs.Appending.{AppendAsks, AppendGroup, append_heard, append_step}
use Rattle.pm_journal.specs.Locking.{LockAsks, LockGroup, lock_heard, lock_step, no_tally}
use Rattle.pm_journal.specs.declared.appending.AppendEnd.{AppendEnd}
use Rattle.pm_journal.specs.declared.appending.AppendState.{AppendState}
use Rattle.pm_journal.specs.declared.appending.AppendState.TheVariants.{Looking}
use Rattle.pm_journal.specs.declared.appending.AppendStep.{AppendStep}
use Rattle.pm_journal.specs.declared.appending.AppendStep.TheVariants.{Look as AskLook, Create as AskCreate, Append as AskAppend, Sync as AskSync, Cut as AskCut, Remove as AskRemove, Finish as AppendFinish}
use Rattle.pm_journal.specs.declared.locking.LockEnd.TheVariants.{Held}
use Rattle.pm_journal.specs.declared.locking.LockRule.{LockRule}
use Rattle.pm_journal.specs.declared.locking.LockState.TheVariants.{Trying}
use Rattle.pm_journal.specs.declared.locking.LockStep.{LockStep}
use Rattle.pm_journal.specs.declared.locking.LockStep.TheVariants.{Create, Age, Look, Remove, Sleep, Finish}
use Rattle.pm_turns.specs.declared.writers.Delivery.{Delivery}
use Rattle.pm_turns.specs.declared.writers.Place.{Place}
use Rattle.pm_turns.specs.declared.writers.Place.TheVariants.{Locking, Appending, Giving, Gone, Away}
use Rattle.pm_turns.specs.declared.writers.Will.{Will}
use Rattle.pm_turns.specs.Turning.{Turning, Event, lock_answer, give_answer, append_answer, happens}

-- a step of the taking of this lock as a call with its answer
abbrev pub lock_call : List ℕ → LockStep → Answer → List Logged
lock_call lock Create answer = logged (CallCreate lock) answer ∷ []
lock_call lock Age answer = logged (CallAge lock) answer ∷ []
lock_call lock Look answer = logged (CallLook lock) answer ∷ []
lock_call lock Remove answer = logged (CallRemove lock) answer ∷ []
lock_call lock (Sleep seconds) answer = logged (CallSleep seconds) answer ∷ []
lock_call lock (Finish end) answer = []

-- a step of an append of this piece, which offers all that is left
abbrev pub append_call : List ℕ → List ℕ → AppendStep → Answer → List Logged
append_call name piece AskLook answer = logged (CallLook name) answer ∷ []
append_call name piece AskCreate answer = logged (CallCreate name) answer ∷ []
append_call name piece (AskAppend from) answer = logged (CallAppend name (drop from piece)) answer ∷ []
append_call name piece AskSync answer = logged (CallSync name) answer ∷ []
append_call name piece (AskCut old) answer = logged (CallCut name old) answer ∷ []
append_call name piece AskRemove answer = logged (CallRemove name) answer ∷ []
append_call name piece (AppendFinish end) answer = []

-- the next call of a writer that stands here, for a lock and a mailbox of these names
abbrev pub call_by : List ℕ → List ℕ → List ℕ → Place → Option (List ℕ) → Bool → Will → List Logged
call_by lock name piece (Locking t) mailbox locked will = lock_call lock (lock_step t.at) (lock_answer (lock_step t.at) locked will)
call_by lock name piece (Appending a) mailbox locked will = append_call name piece (append_step a.len a.sync a.at) (append_answer (append_step a.len a.sync a.at) (length piece) mailbox will)
call_by lock name piece (Giving end) mailbox locked will = logged (CallRemove lock) (AnswerRemove (give_answer locked will)) ∷ []
call_by lock name piece other mailbox locked will = []

-- the same for a writer that is there
abbrev pub call_of : List ℕ → List ℕ → Turning → Option Delivery → Will → List Logged
call_of lock name s None will = []
call_of lock name s (Some d) will = call_by lock name d.piece d.place s.mailbox s.locked will

-- the call that an event makes, if any
abbrev pub made : List ℕ → List ℕ → Turning → Event → List Logged
made lock name s e = cond s.forced [] (call_of lock name s (slice_get s.writers e.writer) e.will)

-- the calls that this writer makes in these events
abbrev pub calls_of : List ℕ → List ℕ → ℕ → List Event → Turning → List Logged
calls_of lock name w [] s = []
calls_of lock name w (e ∷ es) s = cond (nat_eq e.writer w) (made lock name s e) [] ++ calls_of lock name w es (happens s e)

-- the lock was got by these calls, and then the append came to here
pub record Appended (lock name : List ℕ) (rule : LockRule) (piece : List ℕ) (at : AppendState) (calls : List Logged) : Type 0 where
  pub taken : List Logged
  pub added : List Logged
  pub both : calls ≡ taken ++ added
  pub sleeps : ℕ
  pub forced : ℕ
  pub held : LockGroup rule lock (Held sleeps forced) taken
  pub walk : Transitions (AppendAsks name piece true) append_heard Looking added at

-- the lock was got by these calls, and then the piece was appended with its sync, with this end
pub record Finished (lock name : List ℕ) (rule : LockRule) (piece : List ℕ) (end : AppendEnd) (calls : List Logged) : Type 0 where
  pub taken : List Logged
  pub added : List Logged
  pub both : calls ≡ taken ++ added
  pub sleeps : ℕ
  pub forced : ℕ
  pub held : LockGroup rule lock (Held sleeps forced) taken
  pub group : AppendGroup name piece true end added

-- and then the removal of the lock was asked for, once
pub record GivenBack (lock name : List ℕ) (rule : LockRule) (piece : List ℕ) (end : AppendEnd) (answer : Removed) (calls : List Logged) : Type 0 where
  pub before : List Logged
  pub finished : Finished lock name rule piece end before
  pub is : calls ≡ before ++ logged (CallRemove lock) (AnswerRemove answer) ∷ []

-- a writer that made these calls stands here
abbrev pub BringTo : List ℕ → List ℕ → LockRule → List ℕ → Place → List Logged → Type 0
BringTo lock name rule piece (Locking t) calls = Transitions (LockAsks lock) (lock_heard rule) (Trying no_tally) calls t.at
BringTo lock name rule piece (Appending a) calls = Appended lock name rule piece a.at calls
BringTo lock name rule piece (Giving end) calls = Finished lock name rule piece end calls
BringTo lock name rule piece (Gone end answer) calls = GivenBack lock name rule piece end answer calls
BringTo lock name rule piece (Away end) calls = LockGroup rule lock end calls
