-- A child, call by call.
use Rattle.std.specs.Prelude.{◌≡◌, ◌≤◌, ℕ, Bool, true, List, [], ◌++◌, length, Option, Some, None, Result, Ok, Err}
use Rattle.pm_bytes.specs.declared.error.Memory.{Memory as WantOfMemory}
use Rattle.pm_host.specs.Told.{HostView, Makes}
use Rattle.pm_host.specs.Runs.{Ran, Transitions}
use Rattle.pm_host.specs.declared.command.Command.{Command}
use Rattle.pm_host.specs.declared.calls.Call.TheVariants.{Take}
use Rattle.pm_host.specs.declared.calls.Answer.{Answer}
use Rattle.pm_host.specs.declared.calls.Answer.TheVariants.{Take as AnswerTake, Failed as AnswerFailed}
use Rattle.pm_host.specs.declared.calls.Logged.{Logged}
use Rattle.pm_journal.specs.Children.{FeedState, FeedOn, FeedAsks, feed_heard, FeedGroup, TakeState, TakePrefix, OutputGroup, Takes, RunGroup, LeftRun}
use Rattle.pm_journal.specs.declared.children.FeedEnd.{FeedEnd}
use Rattle.pm_journal.specs.declared.children.TakeEnd.{TakeEnd}
use Rattle.pm_journal.specs.declared.acts.Reply.{Reply}
use Rattle.pm_journal.specs.declared.acts.Reply.TheVariants.{Ended as ReplyEnded, NotStarted as ReplyNotStarted, Broken as ReplyBroken, TooLong as ReplyTooLong}
use Rattle.pm_pipe.specs.declared.child.ChildEnd.{ChildEnd}
use Rattle.pm_pipe.specs.declared.child.ChildEnd.TheVariants.{Ended, NotStarted, Broken, TooLong, Memory}
use Rattle.pm_pipe.specs.declared.child.Fate.{Fate}
use Rattle.pm_pipe.specs.declared.child.Fate.TheVariants.{Ended as Exited, NotStarted as Unstarted, Broken as Failed}
use Rattle.pm_pipe.specs.declared.child.Came.{Came}
use Rattle.pm_pipe.specs.declared.child.Came.TheVariants.{More, End, Failed as CameFault}

-- the reply of the act; want of memory is none
abbrev pub child_reply : ChildEnd → Option Reply
child_reply (Ended code took output) = Some (ReplyEnded code took output)
child_reply NotStarted = Some ReplyNotStarted
child_reply (Broken took) = Some (ReplyBroken took)
child_reply (TooLong count) = Some (ReplyTooLong count)
child_reply Memory = None

-- the reply of the act where no output is wanted
abbrev pub fed_reply : Fate → Reply
fed_reply (Exited code took) = ReplyEnded code took []
fed_reply Unstarted = ReplyNotStarted
fed_reply (Failed took) = ReplyBroken took

-- these calls run a child with this reply; where there is none, output is wanted and its taking was left off
abbrev pub EndsRun : Command → List ℕ → Bool → Option Reply → List Logged → Type 0
EndsRun command input want (Some reply) calls = RunGroup command input want reply calls
EndsRun command input want None calls = (want ≡ true) × LeftRun command input calls

-- a child was run with this reply, or none where memory was wanting
pub record RunsTo (command : Command) (input : List ℕ) (want : Bool) (reply : Option Reply) (before after : HostView) : Type 0 where
  pub calls : List Logged
  pub ran : Ran calls before after
  pub group : EndsRun command input want reply calls

-- the child was fed so far
pub record Feeding (input : List ℕ) (at : FeedState) (before after : HostView) : Type 0 where
  pub calls : List Logged
  pub ran : Ran calls before after
  pub walk : Transitions (FeedAsks input) feed_heard (FeedOn 0) calls at

-- the child was fed, and this is how it ended
pub record Feeds (input : List ℕ) (end : FeedEnd) (before after : HostView) : Type 0 where
  pub calls : List Logged
  pub ran : Ran calls before after
  pub group : FeedGroup input end calls

-- output was taken so far
pub record Taking (at : TakeState) (before after : HostView) : Type 0 where
  pub calls : List Logged
  pub ran : Ran calls before after
  pub prefix : TakePrefix at calls

-- the output was taken, and this is how it ended
pub record TakesAll (end : TakeEnd) (before after : HostView) : Type 0 where
  pub calls : List Logged
  pub ran : Ran calls before after
  pub group : OutputGroup end calls

-- the output was taken where that is asked for
pub record TakesWhere (asked : Bool) (end : TakeEnd) (before after : HostView) : Type 0 where
  pub calls : List Logged
  pub ran : Ran calls before after
  pub takes : Takes asked end calls

-- the taking was left off
pub record LeavesTaking (before after : HostView) : Type 0 where
  pub at : TakeState
  pub taking : Taking at before after

-- what the answer brought
abbrev pub Brings : Result Came WantOfMemory → Answer → List ℕ → List ℕ → Type 0
Brings (Ok More) answer old new = (part : List ℕ) × (answer ≡ AnswerTake part) × (1 ≤ length part) × (new ≡ old ++ part)
Brings (Ok End) answer old new = (answer ≡ AnswerTake []) × (new ≡ old)
Brings (Ok CameFault) answer old new = (answer ≡ AnswerFailed) × (new ≡ old)
Brings (Err e) answer old new = Unit {0}

-- one `take` was made, which brought this
pub record MakesTake (room : ℕ) (old : List ℕ) (came : Result Came WantOfMemory) (new : List ℕ) (before after : HostView) : Type 0 where
  pub answer : Answer
  pub makes : Makes (Take room) answer before after
  pub brings : Brings came answer old new
