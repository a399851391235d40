-- Which calls take a lock.
use Rattle.std.specs.Prelude.{◌≡◌, ℕ, ◌+◌, ◌-◌, ◌*◌, ◌&&◌, Bool, true, false, cond, List, [], ◌∷◌, nat_eq, nat_le, nat_lt, Some}
use Rattle.pm_host.specs.Told.{HostView}
use Rattle.pm_host.specs.World.{World, after_call, world_with}
use Rattle.pm_host.specs.Runs.{Ran, Transitions}
use Rattle.pm_host.specs.declared.nodes.Node.TheVariants.{File as AFile}
use Rattle.pm_host.specs.declared.answers.Looked.TheVariants.{File as LookedFile, Folder as LookedFolder, Nothing}
use Rattle.pm_host.specs.declared.answers.Made.TheVariants.{Made as MadeNew, Exists}
use Rattle.pm_host.specs.declared.answers.Aged.TheVariants.{Age as AgeIs, Absent as AgeAbsent}
use Rattle.pm_host.specs.declared.answers.Removed.TheVariants.{Removed as RemovedDone, Absent}
use Rattle.pm_host.specs.declared.calls.Call.{Call}
use Rattle.pm_host.specs.declared.calls.Call.TheVariants.{Look, Create, Remove, Age, Sleep}
use Rattle.pm_host.specs.declared.calls.Answer.{Answer}
use Rattle.pm_host.specs.declared.calls.Answer.TheVariants.{Look as AnswerLook, Create as AnswerCreate, Remove as AnswerRemove, Age as AnswerAge}
use Rattle.pm_host.specs.declared.calls.Logged.{Logged}
use Rattle.pm_journal.specs.declared.acts.Act.{Act}
use Rattle.pm_journal.specs.declared.acts.Act.TheVariants.{Lock}
use Rattle.pm_journal.specs.declared.acts.Reply.{Reply}
use Rattle.pm_journal.specs.declared.acts.Reply.TheVariants.{Held as ReplyHeld, Busy as ReplyBusy, Faulted}
use Rattle.pm_journal.specs.declared.locking.LockRule.{LockRule}
use Rattle.pm_journal.specs.declared.locking.Tally.{Tally}
use Rattle.pm_journal.specs.declared.locking.LockEnd.{LockEnd}
use Rattle.pm_journal.specs.declared.locking.LockEnd.TheVariants.{Held, Busy, Failed}
use Rattle.pm_journal.specs.declared.locking.LockState.{LockState}
use Rattle.pm_journal.specs.declared.locking.LockState.TheVariants.{Trying, Aging, Looking, Removing, Pausing, Ended}
use Rattle.pm_journal.specs.declared.locking.LockStep.{LockStep}
use Rattle.pm_journal.specs.declared.locking.LockStep.TheVariants.{Create as StepCreate, Age as StepAge, Look as StepLook, Remove as StepRemove, Sleep as StepSleep, Finish}

-- the rule of these numbers
abbrev pub lock_rule : ℕ → ℕ → ℕ → ℕ → LockRule
lock_rule sleep limit suspend tries = record { sleep = sleep; limit = limit; suspend = suspend; tries = tries }

-- the act that takes a lock by this rule
abbrev pub lock_act : List ℕ → LockRule → Act
lock_act name rule = Lock name rule.sleep rule.limit rule.suspend rule.tries

-- nothing was lost yet
abbrev pub no_tally : Tally
no_tally = record { lost = 0; sleeps = 0; forced = 0 }

-- what the taking of a lock asks next
abbrev pub lock_step : LockState → LockStep
lock_step (Trying t) = StepCreate
lock_step (Aging t) = StepAge
lock_step (Looking t) = StepLook
lock_step (Removing t) = StepRemove
lock_step (Pausing seconds t) = StepSleep seconds
lock_step (Ended end) = Finish end

-- the call by which a step is asked
abbrev pub LockStepAsks : List ℕ → LockStep → Call → Type 0
LockStepAsks name StepCreate call = call ≡ Create name
LockStepAsks name StepAge call = call ≡ Age name
LockStepAsks name StepLook call = call ≡ Look name
LockStepAsks name StepRemove call = call ≡ Remove name
LockStepAsks name (StepSleep seconds) call = call ≡ Sleep seconds
LockStepAsks name (Finish end) call = ⊥

-- the call by which a taking that stands so goes on
abbrev pub LockAsks : List ℕ → LockState → Call → Type 0
LockAsks name at call = LockStepAsks name (lock_step at) call

-- one try more is lost
abbrev pub one_lost : Tally → Tally
one_lost t = record { lost = t.lost + 1; sleeps = t.sleeps; forced = t.forced }

-- one removal by force more
abbrev pub one_forced : Tally → Tally
one_forced t = record { lost = t.lost; sleeps = t.sleeps; forced = t.forced + 1 }

-- one sleep more
abbrev pub one_slept : Tally → Tally
one_slept t = record { lost = t.lost; sleeps = t.sleeps + 1; forced = t.forced }

-- the try is lost, with a sleep before the next one or without
abbrev pub lose : LockRule → Bool → Tally → LockState
lose r pausing t = cond (nat_le r.tries (t.lost + 1)) (Ended Busy) (cond pausing (Pausing r.sleep (one_lost t)) (Trying (one_lost t)))

-- after a `create`: where the lock file is there, it is looked at, unless none is removed by force (any more)
abbrev pub heard_try : LockRule → Tally → Answer → LockState
heard_try r t (AnswerCreate MadeNew) = Ended (Held t.sleeps t.forced)
heard_try r t (AnswerCreate Exists) = cond (nat_eq r.limit 0) (lose r true t) (cond (nat_le 16 t.forced) (lose r true t) (Aging t))
heard_try r t other = Ended Failed

-- after an `age`: only a lock file that is older than the limit is removed by force
abbrev pub heard_age : LockRule → Tally → Answer → LockState
heard_age r t (AnswerAge (AgeIs seconds)) = cond (nat_lt r.limit seconds) (Looking t) (lose r true t)
heard_age r t (AnswerAge AgeAbsent) = lose r false t
heard_age r t other = Ended Failed

-- after a `look`: only a lock file of at most 16 bytes is removed by force
abbrev pub heard_size : LockRule → Tally → Answer → LockState
heard_size r t (AnswerLook (LookedFile len)) = cond (nat_le len 16) (Removing t) (lose r true t)
heard_size r t (AnswerLook LookedFolder) = lose r true t
heard_size r t (AnswerLook Nothing) = lose r false t
heard_size r t other = Ended Failed

-- after a `remove`: the next try comes after a while, and this one is not lost
abbrev pub heard_forced : LockRule → Tally → Answer → LockState
heard_forced r t (AnswerRemove RemovedDone) = Pausing r.suspend (one_forced t)
heard_forced r t (AnswerRemove Absent) = Pausing r.suspend (one_forced t)
heard_forced r t other = Ended Failed

-- how the taking goes on after an answer
abbrev pub lock_heard : LockRule → LockState → Answer → LockState
lock_heard r (Trying t) answer = heard_try r t answer
lock_heard r (Aging t) answer = heard_age r t answer
lock_heard r (Looking t) answer = heard_size r t answer
lock_heard r (Removing t) answer = heard_forced r t answer
lock_heard r (Pausing seconds t) answer = Trying (one_slept t)
lock_heard r (Ended end) answer = Ended end

-- the reply of a taking that ended so
abbrev pub lock_reply : LockEnd → Reply
lock_reply (Held sleeps forced) = ReplyHeld sleeps forced
lock_reply Busy = ReplyBusy
lock_reply Failed = Faulted

-- these calls are a taking of the lock that ended so
pub record LockGroup (rule : LockRule) (name : List ℕ) (end : LockEnd) (calls : List Logged) : Type 0 where
  pub last : LockState
  pub walk : Transitions (LockAsks name) (lock_heard rule) (Trying no_tally) calls last
  pub ends : lock_step last ≡ Finish end

-- a call of ours that took these calls of the host
pub record TakesLock (rule : LockRule) (name : List ℕ) (end : LockEnd) (before after : HostView) : Type 0 where
  pub calls : List Logged
  pub ran : Ran calls before after
  pub group : LockGroup rule name end calls

-- what the sleeps and removals among these calls make of the world
abbrev pub after_move : Call → Answer → World → World
after_move (Sleep seconds) answer w = after_call (Sleep seconds) answer w
after_move (Remove name) answer w = after_call (Remove name) answer w
after_move other answer w = w

-- the world after these calls of taking a lock, in order
abbrev pub after_moves : List Logged → World → World
after_moves [] w = w
after_moves (c ∷ cs) w = after_moves cs (after_move c.call c.answer w)

-- the world with an empty file made at this moment
abbrev pub with_lock : List ℕ → World → World
with_lock name w = world_with w name (Some (AFile (record { bytes = []; made = w.moment })))

-- the world after a lock's act with this reply, of which these are the calls
abbrev pub after_lock : Reply → List ℕ → List Logged → World → World
after_lock (ReplyHeld sleeps forced) name calls w = with_lock name (after_moves calls w)
after_lock other name calls w = after_moves calls w

-- the tries and forced removals that may still come, and the calls of this try
abbrev pub lock_left : LockRule → LockState → ℕ
lock_left r (Trying t) = (r.tries - t.lost + (16 - t.forced)) * 8 + 4
lock_left r (Aging t) = (r.tries - t.lost + (16 - t.forced)) * 8 + 3
lock_left r (Looking t) = (r.tries - t.lost + (16 - t.forced)) * 8 + 2
lock_left r (Removing t) = (r.tries - t.lost + (16 - t.forced)) * 8 + 1
lock_left r (Pausing seconds t) = (r.tries - t.lost + (16 - t.forced)) * 8 + 5
lock_left r (Ended end) = 0

-- the numbers stay within these bounds
abbrev pub lock_within : LockRule → LockState → Bool
lock_within r (Trying t) = nat_le r.tries 1000000 && (nat_lt t.lost r.tries && (nat_le t.forced 16 && nat_le t.sleeps (t.lost + t.forced)))
lock_within r (Aging t) = nat_le r.tries 1000000 && (nat_lt t.lost r.tries && (nat_lt t.forced 16 && nat_le t.sleeps (t.lost + t.forced)))
lock_within r (Looking t) = nat_le r.tries 1000000 && (nat_lt t.lost r.tries && (nat_lt t.forced 16 && nat_le t.sleeps (t.lost + t.forced)))
lock_within r (Removing t) = nat_le r.tries 1000000 && (nat_lt t.lost r.tries && (nat_lt t.forced 16 && nat_le t.sleeps (t.lost + t.forced)))
lock_within r (Pausing seconds t) = nat_le r.tries 1000000 && (nat_lt t.lost r.tries && (nat_le t.forced 16 && nat_lt t.sleeps (t.lost + t.forced)))
lock_within r (Ended end) = true
