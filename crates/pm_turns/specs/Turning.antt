-- Writers that share one mailbox and one lock, event by event.
use Rattle.std.specs.Prelude.{ℕ, ◌-◌, Bool, true, false, cond, min, max, List, [], ◌∷◌, ◌++◌, length, take, drop, map, Option, Some, None, slice_get, slice_set}
use Rattle.pm_host.specs.declared.answers.Looked.TheVariants.{File as LookedFile, Nothing, Failed as LookFailed}
use Rattle.pm_host.specs.declared.answers.Took.TheVariants.{Took as TookSome, Failed as TookFailed}
use Rattle.pm_host.specs.declared.answers.Made.TheVariants.{Made as MadeNew, Exists, Failed as MadeFailed}
use Rattle.pm_host.specs.declared.answers.Cut.TheVariants.{Cut as CutDone, Failed as CutFailed}
use Rattle.pm_host.specs.declared.answers.Removed.{Removed}
use Rattle.pm_host.specs.declared.answers.Removed.TheVariants.{Removed as RemovedDone, Absent, Failed as RemoveFailed}
use Rattle.pm_host.specs.declared.answers.Aged.TheVariants.{Age as AgeIs, Absent as AgeAbsent, Failed as AgeFailed}
use Rattle.pm_host.specs.declared.answers.Synced.TheVariants.{Synced, Failed as SyncFailed}
use Rattle.pm_host.specs.declared.calls.Answer.{Answer}
use Rattle.pm_host.specs.declared.calls.Answer.TheVariants.{Look as AnswerLook, Create as AnswerCreate, Append as AnswerAppend, Cut as AnswerCut, Remove as AnswerRemove, Age as AnswerAge, Sync as AnswerSync, Slept, Failed as AnswerFailed}
use Rattle.pm_journal.specs.Appending.{append_step}
use Rattle.pm_journal.specs.Locking.{lock_rule, lock_step}
use Rattle.pm_journal.specs.declared.appending.AppendStep.{AppendStep}
use Rattle.pm_journal.specs.declared.appending.AppendStep.TheVariants.{Look as AskLook, Create as AskCreate, Append as AskAppend, Sync as AskSync, Cut as AskCut, Remove as AskRemove, Finish as AppendFinish}
use Rattle.pm_journal.specs.declared.locking.LockEnd.TheVariants.{Held}
use Rattle.pm_journal.specs.declared.locking.LockRule.{LockRule}
use Rattle.pm_journal.specs.declared.locking.LockStep.{LockStep}
use Rattle.pm_journal.specs.declared.locking.LockStep.TheVariants.{Create, Age, Look, Remove, Sleep, Finish}
use Rattle.pm_append.specs.Machine.{Machine as Append, appending, appending_heard}
use Rattle.pm_locks.specs.Machine.{Machine as Taking, taking, taking_heard}
use Rattle.pm_turns.specs.declared.writers.Delivery.{Delivery}
use Rattle.pm_turns.specs.declared.writers.Outcome.{Outcome}
use Rattle.pm_turns.specs.declared.writers.Place.{Place}
use Rattle.pm_turns.specs.declared.writers.Place.TheVariants.{Locking, Appending, Giving, Gone, Away}
use Rattle.pm_turns.specs.declared.writers.Stepped.{Stepped}
use Rattle.pm_turns.specs.declared.writers.Stepped.TheVariants.{Went, Over, Forced}
use Rattle.pm_turns.specs.declared.writers.Will.{Will}
use Rattle.pm_turns.specs.declared.writers.Will.TheVariants.{Serve, Fail}
use Rattle.pm_turns.specs.declared.writers.Writer.{Writer}

-- the mailbox (None where it is absent), whether the lock file is there, where each writer stands, who got the lock in
-- which order, and whether a lock was removed by force
pub record Turning : Type 0 where
  pub mailbox : Option (List ℕ)
  pub locked : Bool
  pub writers : List Delivery
  pub order : List ℕ
  pub forced : Bool

-- the next call of this writer is taken so
pub record Event : Type 0 where
  pub writer : ℕ
  pub will : Will

-- this writer makes its next call, and it is answered by this will
abbrev pub event : ℕ → Will → Event
event writer will = record { writer = writer; will = will }

-- The lock

-- the answer to a step of the taking, where the lock is there or isn't: its age is as the will says, and it is empty
abbrev pub lock_answer : LockStep → Bool → Will → Answer
lock_answer Create locked (Serve n) = AnswerCreate (cond locked Exists MadeNew)
lock_answer Create locked Fail = AnswerCreate MadeFailed
lock_answer Age locked (Serve n) = AnswerAge (cond locked (AgeIs n) AgeAbsent)
lock_answer Age locked Fail = AnswerAge AgeFailed
lock_answer Look locked (Serve n) = AnswerLook (cond locked (LookedFile 0) Nothing)
lock_answer Look locked Fail = AnswerLook LookFailed
lock_answer Remove locked (Serve n) = AnswerRemove (cond locked RemovedDone Absent)
lock_answer Remove locked Fail = AnswerRemove RemoveFailed
lock_answer (Sleep seconds) locked will = Slept
lock_answer (Finish end) locked will = AnswerFailed

-- the answer to the removal by which a writer gives the lock back
abbrev pub give_answer : Bool → Will → Removed
give_answer locked (Serve n) = cond locked RemovedDone Absent
give_answer locked Fail = RemoveFailed

-- the lock stays as it is
abbrev pub unchanged : Bool → Outcome
unchanged locked = record { locked = locked; got = false; forced = false }

-- what an answer to the taking makes of the lock: it is got where it is made, and forced where it is removed
abbrev pub lock_outcome : Answer → Bool → Outcome
lock_outcome (AnswerCreate MadeNew) locked = record { locked = true; got = true; forced = false }
lock_outcome (AnswerRemove RemovedDone) locked = record { locked = false; got = false; forced = true }
lock_outcome other locked = unchanged locked

-- whether the lock is there after a writer's own removal
abbrev pub still_locked : Removed → Bool → Bool
still_locked RemovedDone locked = false
still_locked other locked = locked

-- what the answer to a writer's own removal makes of the lock
abbrev pub give_outcome : Removed → Bool → Outcome
give_outcome answer locked = unchanged (still_locked answer locked)

-- The mailbox

-- a part of what is left, and at least one byte
abbrev pub part_of : ℕ → ℕ → ℕ
part_of left n = max 1 (min n left)

-- the answer to a step of an append of so many bytes, as the mailbox has it
abbrev pub served : AppendStep → ℕ → Option (List ℕ) → ℕ → Answer
served AskLook len None n = AnswerLook Nothing
served AskLook len (Some bytes) n = AnswerLook (LookedFile (length bytes))
served AskCreate len None n = AnswerCreate MadeNew
served AskCreate len (Some bytes) n = AnswerCreate Exists
served (AskAppend from) len None n = AnswerAppend TookFailed
served (AskAppend from) len (Some bytes) n = AnswerAppend (TookSome (part_of (len - from) n))
served AskSync len None n = AnswerSync SyncFailed
served AskSync len (Some bytes) n = AnswerSync Synced
served (AskCut old) len None n = AnswerCut CutFailed
served (AskCut old) len (Some bytes) n = AnswerCut CutDone
served AskRemove len None n = AnswerRemove Absent
served AskRemove len (Some bytes) n = AnswerRemove RemovedDone
served (AppendFinish end) len mailbox n = AnswerFailed

-- the answer to a step that fails
abbrev pub refused : AppendStep → Answer
refused AskLook = AnswerLook LookFailed
refused AskCreate = AnswerCreate MadeFailed
refused (AskAppend from) = AnswerAppend TookFailed
refused AskSync = AnswerSync SyncFailed
refused (AskCut old) = AnswerCut CutFailed
refused AskRemove = AnswerRemove RemoveFailed
refused (AppendFinish end) = AnswerFailed

-- the answer by the will
abbrev pub append_answer : AppendStep → ℕ → Option (List ℕ) → Will → Answer
append_answer step len mailbox (Serve n) = served step len mailbox n
append_answer step len mailbox Fail = refused step

-- the bytes of a mailbox; one that is absent has none
abbrev pub text : Option (List ℕ) → List ℕ
text None = []
text (Some bytes) = bytes

-- the mailbox after a step of an append of this piece; a failed one changes nothing
abbrev pub mailbox_after : AppendStep → Answer → List ℕ → Option (List ℕ) → Option (List ℕ)
mailbox_after AskCreate (AnswerCreate MadeNew) piece mailbox = Some []
mailbox_after (AskAppend from) (AnswerAppend (TookSome n)) piece mailbox = Some (text mailbox ++ take n (drop from piece))
mailbox_after (AskCut old) (AnswerCut CutDone) piece mailbox = Some (take old (text mailbox))
mailbox_after AskRemove (AnswerRemove RemovedDone) piece mailbox = None
mailbox_after step answer piece mailbox = mailbox

-- The writers

-- where a writer stands by the next step of its taking
abbrev pub at_lock_step : ℕ → Taking → LockStep → Place
at_lock_step len t (Finish (Held sleeps forced)) = Appending (appending len true)
at_lock_step len t (Finish end) = Away end
at_lock_step len t other = Locking t

-- where a writer of so many bytes stands whose taking has come so far: with the lock held its append begins, with its sync
abbrev pub lock_place : ℕ → Taking → Place
lock_place len t = at_lock_step len t (lock_step t.at)

-- where a writer stands by the next step of its append
abbrev pub at_step : Append → AppendStep → Place
at_step a (AppendFinish end) = Giving end
at_step a other = Appending a

-- where a writer stands whose append has come so far
abbrev pub append_place : Append → Place
append_place a = at_step a (append_step a.len a.sync a.at)

-- a writer with this piece that stands here
abbrev pub delivery : List ℕ → Place → Delivery
delivery piece place = record { piece = piece; place = place }

-- The next call of a writer: where it stands then, the mailbox, the lock

-- where it stands then
abbrev pub place_by : List ℕ → Place → Option (List ℕ) → Bool → Will → Place
place_by piece (Locking t) mailbox locked will = lock_place (length piece) (taking_heard t (lock_answer (lock_step t.at) locked will))
place_by piece (Appending a) mailbox locked will = append_place (appending_heard a (append_answer (append_step a.len a.sync a.at) (length piece) mailbox will))
place_by piece (Giving end) mailbox locked will = Gone end (give_answer locked will)
place_by piece place mailbox locked will = place

-- the mailbox then
abbrev pub mailbox_by : List ℕ → Place → Option (List ℕ) → Will → Option (List ℕ)
mailbox_by piece (Appending a) mailbox will = mailbox_after (append_step a.len a.sync a.at) (append_answer (append_step a.len a.sync a.at) (length piece) mailbox will) piece mailbox
mailbox_by piece place mailbox will = mailbox

-- how the lock goes
abbrev pub outcome_by : Place → Bool → Will → Outcome
outcome_by (Locking t) locked will = lock_outcome (lock_answer (lock_step t.at) locked will) locked
outcome_by (Giving end) locked will = give_outcome (give_answer locked will) locked
outcome_by place locked will = unchanged locked

-- it has nothing more to ask
abbrev pub is_over : Place → Bool
is_over (Gone end answer) = true
is_over (Away end) = true
is_over other = false

-- the writer stands here then, the mailbox is this, and the lock went so
abbrev pub put : Turning → ℕ → List ℕ → Place → Option (List ℕ) → Outcome → Turning
put s w piece place mailbox outcome = record {
  mailbox = mailbox;
  locked = outcome.locked;
  writers = slice_set s.writers w (delivery piece place);
  order = cond outcome.got (s.order ++ w ∷ []) s.order;
  forced = outcome.forced;
}

-- a turn of a writer that stands here; one that has ended changes nothing
abbrev pub place_turn : Turning → ℕ → List ℕ → Place → Will → Turning
place_turn s w piece place will =
    cond (is_over place) s (put s w piece (place_by piece place s.mailbox s.locked will) (mailbox_by piece place s.mailbox will) (outcome_by place s.locked will))

-- a turn of a writer that is there
abbrev pub turn : Turning → ℕ → Option Delivery → Will → Turning
turn s w None will = s
turn s w (Some d) will = place_turn s w d.piece d.place will

-- one event; after the first forced removal none changes anything
abbrev pub happens : Turning → Event → Turning
happens s e = cond s.forced s (turn s e.writer (slice_get s.writers e.writer) e.will)

-- a whole schedule
abbrev pub run : List Event → Turning → Turning
run [] s = s
run (e ∷ es) s = run es (happens s e)

-- by which rule a writer takes the lock
abbrev pub rule_of : Writer → LockRule
rule_of w = lock_rule w.sleep w.limit w.suspend w.tries

-- a writer before its first call
abbrev pub begun : Writer → Delivery
begun w = delivery w.piece (Locking (taking (rule_of w)))

-- no writer has asked anything
abbrev pub opens : Option (List ℕ) → Bool → List Writer → Turning
opens mailbox locked writers = record { mailbox = mailbox; locked = locked; writers = map begun writers; order = []; forced = false }

-- whether a writer that is there has nothing more to ask
abbrev pub has_ended : Option Delivery → Bool
has_ended None = false
has_ended (Some d) = is_over d.place

-- what an event answers, by whether a lock was removed by force until then, and whether the writer had ended before
abbrev pub stepped : Bool → Bool → Stepped
stepped true ended = Forced
stepped false true = Over
stepped false false = Went
