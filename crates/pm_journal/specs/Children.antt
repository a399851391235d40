-- Which calls run a child.
use Rattle.std.specs.Prelude.{◌≡◌, ◌≤◌, ◌<◌, ℕ, ◌+◌, min, Bool, true, false, List, [], ◌∷◌, ◌++◌, length, take, drop}
use Rattle.pm_host.specs.World.{World, after_others}
use Rattle.pm_host.specs.Runs.{logged, Transitions}
use Rattle.pm_host.specs.declared.answers.Started.TheVariants.{Started as StartedOk, Failed as StartFailed}
use Rattle.pm_host.specs.declared.answers.Fed.TheVariants.{Took as FedSome, Closed as FedClosed}
use Rattle.pm_host.specs.declared.answers.Finished.{Finished}
use Rattle.pm_host.specs.declared.answers.Finished.TheVariants.{Code, Signal, Failed as FinishFailed}
use Rattle.pm_host.specs.declared.command.Command.{Command}
use Rattle.pm_host.specs.declared.calls.Call.{Call}
use Rattle.pm_host.specs.declared.calls.Call.TheVariants.{Start, Feed, Take, Finish}
use Rattle.pm_host.specs.declared.calls.Answer.{Answer}
use Rattle.pm_host.specs.declared.calls.Answer.TheVariants.{Start as AnswerStart, Feed as AnswerFeed, Take as AnswerTake, Finish as AnswerFinish}
use Rattle.pm_host.specs.declared.calls.Logged.{Logged}
use Rattle.pm_journal.specs.Appending.{IsFront}
use Rattle.pm_journal.specs.declared.children.FeedEnd.{FeedEnd}
use Rattle.pm_journal.specs.declared.children.FeedEnd.TheVariants.{All as FedAll, Closed as FedUpTo, Failed as FedFailed}
use Rattle.pm_journal.specs.declared.children.TakeEnd.{TakeEnd}
use Rattle.pm_journal.specs.declared.children.TakeEnd.TheVariants.{All as CameAll, Failed as CameFailed, Long as CameLong}
use Rattle.pm_journal.specs.declared.acts.Reply.{Reply}
use Rattle.pm_journal.specs.declared.acts.Reply.TheVariants.{Ended, NotStarted, Broken, TooLong}

-- where the feeding of a child stands
pub data FeedState : Type 0 where
  -- so many bytes were taken
  FeedOn : ℕ → FeedState
  FeedOver : FeedEnd → FeedState

-- a piece that may be fed
pub record IsNextFeed (left : List ℕ) (call : Call) : Type 0 where
  pub part : List ℕ
  pub is : call ≡ Feed part
  pub front : IsFront part left
  pub some : 1 ≤ length part

-- the next call of a feeding that has come so far
abbrev pub FeedAsks : List ℕ → FeedState → Call → Type 0
FeedAsks input (FeedOn taken) call = IsNextFeed (drop taken input) call
FeedAsks input (FeedOver end) call = ⊥

-- what an answer makes of it, after so many bytes that were taken
abbrev pub heard_feed : ℕ → Answer → FeedState
heard_feed taken (AnswerFeed (FedSome n)) = FeedOn (taken + n)
heard_feed taken (AnswerFeed FedClosed) = FeedOver (FedUpTo taken)
heard_feed taken other = FeedOver (FedFailed taken)

-- the state of feeding after an answer; feeding that is over stays over
abbrev pub feed_heard : FeedState → Answer → FeedState
feed_heard (FeedOn taken) answer = heard_feed taken answer
feed_heard (FeedOver end) answer = FeedOver end

-- the feeding ends here
abbrev pub FeedDone : ℕ → FeedState → FeedEnd → Type 0
FeedDone len (FeedOn taken) end = (taken ≡ len) × (end ≡ FedAll)
FeedDone len (FeedOver e) end = end ≡ e

-- these calls feed the input to a child, which ended so
pub record FeedGroup (input : List ℕ) (end : FeedEnd) (calls : List Logged) : Type 0 where
  pub at : FeedState
  pub walk : Transitions (FeedAsks input) feed_heard (FeedOn 0) calls at
  pub done : FeedDone (length input) at end

-- where the taking of a child's output stands
pub data TakeState : Type 0 where
  -- these bytes came so far
  TakeOn : List ℕ → TakeState
  TakeOver : TakeEnd → TakeState

-- a `take` that may be made after these bytes
pub record IsNextTake (so_far : List ℕ) (call : Call) : Type 0 where
  pub room : ℕ
  pub is : call ≡ Take room
  pub some : 1 ≤ room
  pub small : room ≤ 4096
  pub wanted : length so_far ≤ 67108864

-- the next call of a taking that has come so far
abbrev pub TakeAsks : TakeState → Call → Type 0
TakeAsks (TakeOn so_far) call = IsNextTake so_far call
TakeAsks (TakeOver end) call = ⊥

-- more output came; where none did, all of it is there
abbrev pub took_more : List ℕ → List ℕ → TakeState
took_more so_far [] = TakeOver (CameAll so_far)
took_more so_far (b ∷ more) = TakeOn (so_far ++ b ∷ more)

-- what an answer makes of it, after this output
abbrev pub heard_take : List ℕ → Answer → TakeState
heard_take so_far (AnswerTake more) = took_more so_far more
heard_take so_far other = TakeOver CameFailed

-- the state of taking output after an answer; taking that is over stays over
abbrev pub take_heard : TakeState → Answer → TakeState
take_heard (TakeOn so_far) answer = heard_take so_far answer
take_heard (TakeOver end) answer = TakeOver end

-- the taking ends here
abbrev pub TakeDone : TakeState → TakeEnd → Type 0
TakeDone (TakeOn so_far) end = (67108864 < length so_far) × (end ≡ CameLong (length so_far))
TakeDone (TakeOver e) end = end ≡ e

-- the taking was left off here
abbrev pub TakePrefix : TakeState → List Logged → Type 0
TakePrefix at calls = Transitions TakeAsks take_heard (TakeOn []) calls at

-- these calls take a child's output, which ended so
pub record OutputGroup (end : TakeEnd) (calls : List Logged) : Type 0 where
  pub at : TakeState
  pub prefix : TakePrefix at calls
  pub done : TakeDone at end

-- the output is taken where it is wanted and no feed failed
abbrev pub takes_output : Bool → FeedEnd → Bool
takes_output want (FedFailed took) = false
takes_output want other = want

-- the calls that take the output; where it is not asked for, none
abbrev pub Takes : Bool → TakeEnd → List Logged → Type 0
Takes true end calls = OutputGroup end calls
Takes false end calls = (end ≡ CameAll []) × (calls ≡ [])

-- how many bytes of so many the child took
abbrev pub fed_count : ℕ → FeedEnd → ℕ
fed_count len FedAll = len
fed_count len (FedUpTo took) = took
fed_count len (FedFailed took) = took

-- the reply where the child was waited for: it has a code
abbrev pub finish_reply : ℕ → Finished → (ℕ → Reply) → Reply
finish_reply took (Code code) reply = reply code
finish_reply took (Signal signal) reply = reply (min (signal + 128) 255)
finish_reply took FinishFailed reply = Broken took

-- what a run comes to that took so many bytes, by its output and its end
abbrev pub came_reply : ℕ → TakeEnd → Finished → Reply
came_reply took (CameAll output) finished = finish_reply took finished (λ code. Ended code took output)
came_reply took CameFailed finished = Broken took
came_reply took (CameLong count) finished = finish_reply took finished (λ code. TooLong count)

-- what a run comes to, by how it was fed, its output and its end
abbrev pub run_reply : ℕ → FeedEnd → TakeEnd → Finished → Reply
run_reply len (FedFailed took) came finished = Broken took
run_reply len FedAll came finished = came_reply len came finished
run_reply len (FedUpTo took) came finished = came_reply took came finished

-- a child is started, fed, its output taken where it is wanted, and waited for
abbrev pub run_calls : Command → Bool → List Logged → List Logged → Finished → List Logged
run_calls command want feeds takes finished =
    logged (Start command want) (AnswerStart StartedOk) ∷ (feeds ++ (takes ++ logged Finish (AnswerFinish finished) ∷ []))

-- the calls of a child that was started, in their order, and what the run comes to
pub record RunsChild (command : Command) (input : List ℕ) (want : Bool) (reply : Reply) (calls : List Logged) : Type 0 where
  pub fed : FeedEnd
  pub came : TakeEnd
  pub finished : Finished
  pub feeds : List Logged
  pub takes : List Logged
  pub feeding : FeedGroup input fed feeds
  pub taking : Takes (takes_output want fed) came takes
  pub reply_is : reply ≡ run_reply (length input) fed came finished
  pub calls_are : calls ≡ run_calls command want feeds takes finished

-- these calls run a child with this reply
pub data RunGroup (command : Command) (input : List ℕ) (want : Bool) (reply : Reply) (calls : List Logged) : Type 0 where
  not_started : reply ≡ NotStarted → calls ≡ logged (Start command want) (AnswerStart StartFailed) ∷ [] → RunGroup command input want reply calls
  was_run : RunsChild command input want reply calls → RunGroup command input want reply calls

-- the taking was left off, and the child was waited for
pub record LeftRun (command : Command) (input : List ℕ) (calls : List Logged) : Type 0 where
  pub fed : FeedEnd
  pub at : TakeState
  pub finished : Finished
  pub feeds : List Logged
  pub takes : List Logged
  pub feeding : FeedGroup input fed feeds
  pub asked : takes_output true fed ≡ true
  pub taking : TakePrefix at takes
  pub calls_are : calls ≡ run_calls command true feeds takes finished

-- the bytes that the feeds among these calls gave to a child
abbrev pub fed_by : Call → Answer → List ℕ
fed_by (Feed piece) (AnswerFeed (FedSome n)) = take n piece
fed_by call answer = []

-- what calls fed
abbrev pub fed_bytes : List Logged → List ℕ
fed_bytes [] = []
fed_bytes (c ∷ cs) = fed_by c.call c.answer ++ fed_bytes cs

-- the bytes that the takes among these calls brought
abbrev pub taken_by : Call → Answer → List ℕ
taken_by (Take room) (AnswerTake bytes) = bytes
taken_by call answer = []

-- what calls took of the output
abbrev pub taken_bytes : List Logged → List ℕ
taken_bytes [] = []
taken_bytes (c ∷ cs) = taken_by c.call c.answer ++ taken_bytes cs

-- the next child was started, and took these bytes
abbrev pub with_input : Command → List ℕ → World → World
with_input command bytes w = record { nodes = w.nodes; moment = w.moment; others = w.others; children = drop 1 w.children; inputs = w.inputs ++ record { command = command; bytes = bytes } ∷ [] }

-- a child that was started took its input, and others acted
abbrev pub after_child_ran : Command → List Logged → World → World
after_child_ran command calls w = after_others (with_input command (fed_bytes calls) w)

-- the world after a run; where nothing was started, nothing changed
abbrev pub after_run : Reply → Command → List Logged → World → World
after_run NotStarted command calls w = w
after_run other command calls w = after_child_ran command calls w
