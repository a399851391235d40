-- How programs are started, fed, heard and waited for: by the host below, by the real one, or once more.
use Rattle.std.specs.Prelude.{◌≡◌, ◌⊎◌, ◌-◌, ◌<◌, ℕ, min, Bool, List, length, Option}
use Rattle.pm_host.specs.Answers.{take_answer}
use Rattle.pm_host.specs.Streams.{Gives}
use Rattle.pm_host.specs.Told.{HostView, Makes}
use Rattle.pm_host.specs.World.{IsFailed}
use Rattle.pm_host.specs.declared.answers.Child.{Child}
use Rattle.pm_host.specs.declared.answers.Fed.{Fed}
use Rattle.pm_host.specs.declared.answers.Fed.TheVariants.{Took as FedSome, Closed, Failed as FeedFailed}
use Rattle.pm_host.specs.declared.answers.Finished.{Finished}
use Rattle.pm_host.specs.declared.answers.Finished.TheVariants.{Code}
use Rattle.pm_host.specs.declared.answers.Got.{Got}
use Rattle.pm_host.specs.declared.answers.Started.{Started as StartAnswer}
use Rattle.pm_host.specs.declared.calls.Answer.{Answer}
use Rattle.pm_host.specs.declared.calls.Call.{Call}
use Rattle.pm_host.specs.declared.calls.Answer.TheVariants.{Start as AnswerStart, Feed as AnswerFeed, Finish as AnswerFinish}
use Rattle.pm_host.specs.declared.calls.Call.TheVariants.{Start, Feed, Take, Finish}
use Rattle.pm_host.specs.declared.command.Command.{Command}
use Rattle.pm_journal.specs.declared.acts.Entry.{Entry}
use Rattle.pm_memory.specs.Source.{source_view}
use Rattle.pm_overlay.specs.Steps.{quiet}
use Rattle.explain_run.specs.Scripts.{IsAgain}
use Rattle.explain_run.specs.declared.past.Past.{Past}
use Rattle.explain_run.specs.declared.playing.Playing.{Playing}
use Rattle.explain_run.specs.declared.playing.Playing.TheVariants as playing
use Rattle.explain_run.specs.declared.script.Part.{Part}
use Rattle.explain_run.specs.declared.script.Part.TheVariants as part

-- whether a child runs: that of the host below, of the real one, or one that is answered again
abbrev pub child_of : Playing → Child → Child → Child → Child
child_of playing.Below again below real = below
child_of playing.Real again below real = real
child_of (playing.Again past) again below real = again

-- what the host tells: its count of faults, and whether a child runs
abbrev pub own_view : ℕ → Playing → Child → HostView → HostView → HostView
own_view faults playing again below real = quiet faults (child_of playing again below.child real.child)

-- the host took the call and gave the answer; or memory was wanting, it took none, and the answer says that the call failed
abbrev pub Passes : Call → Answer → HostView → HostView → Type 0
Passes call answer before after = Makes call answer before after ⊎ (IsFailed answer × (after ≡ before))

-- The host below takes the start of a program that it answers, and no other.
abbrev pub StartsBelow : Part → Command → Bool → StartAnswer → HostView → HostView → Type 0
StartsBelow part.Below command want answer before after = Passes (Start command want) (AnswerStart answer) before after
StartsBelow part.Real command want answer before after = after ≡ before
StartsBelow part.Again command want answer before after = after ≡ before

-- The real host takes the start of the program that is started next, and no other.
abbrev pub StartsReal : Part → Command → Bool → StartAnswer → HostView → HostView → Type 0
StartsReal part.Below command want answer before after = after ≡ before
StartsReal part.Real command want answer before after = Passes (Start command want) (AnswerStart answer) before after
StartsReal part.Again command want answer before after = after ≡ before

-- the program has the answer again that this one of the run before had
abbrev pub IsAnsweredAgain : Option Entry → Playing → Type 0
IsAnsweredAgain old (playing.Again past) = IsAgain old past
IsAnsweredAgain old playing.Below = ⊥
IsAnsweredAgain old playing.Real = ⊥

-- the program that was started is answered so; `old` is the one at its place in the run before
abbrev pub PlaysAs : Part → Option Entry → Playing → Type 0
PlaysAs part.Below old now = now ≡ playing.Below
PlaysAs part.Real old now = now ≡ playing.Real
PlaysAs part.Again old now = IsAnsweredAgain old now

-- a program that is answered again takes as many bytes as it took before, and no more
abbrev pub FeedsAgain : ℕ → Fed → Past → Past → Type 0
FeedsAgain count (FedSome n) old new = (n ≡ min count old.takes) × (0 < old.takes) × (new ≡ record old { takes = old.takes - n })
FeedsAgain count Closed old new = (old.takes ≡ 0) × (new ≡ old)
FeedsAgain count FeedFailed old new = ⊥

-- the same, where it is one
abbrev pub FeedsPast : ℕ → Fed → Past → Playing → Type 0
FeedsPast count fed old (playing.Again new) = FeedsAgain count fed old new
FeedsPast count fed old playing.Below = ⊥
FeedsPast count fed old playing.Real = ⊥

-- what a `feed` does: to the host below, to the real one, and to a program that is answered again
abbrev pub FeedsAs : List ℕ → Fed → Playing → Playing → HostView → HostView → HostView → HostView → Type 0
FeedsAs piece fed playing.Below now below below' real real' = (now ≡ playing.Below) × Makes (Feed piece) (AnswerFeed fed) below below' × (real' ≡ real)
FeedsAs piece fed playing.Real now below below' real real' = (now ≡ playing.Real) × Makes (Feed piece) (AnswerFeed fed) real real' × (below' ≡ below)
FeedsAs piece fed (playing.Again past) now below below' real real' = FeedsPast (length piece) fed past now × (below' ≡ below) × (real' ≡ real)

-- a program that is answered again gives the next bytes of its output
pub record TakesAgain (most : ℕ) (got : Got) (room : List ℕ) (old new : Past) : Type 0 where
  pub gives : Gives most got room (source_view old.output) (source_view new.output)
  pub code : new.code ≡ old.code
  pub takes : new.takes ≡ old.takes

-- the same, where it is one
abbrev pub TakesPast : ℕ → Got → List ℕ → Past → Playing → Type 0
TakesPast most got room old (playing.Again new) = TakesAgain most got room old new
TakesPast most got room old playing.Below = ⊥
TakesPast most got room old playing.Real = ⊥

-- what a `take` does
abbrev pub TakesAs : ℕ → Got → List ℕ → Playing → Playing → HostView → HostView → HostView → HostView → Type 0
TakesAs most got room playing.Below now below below' real real' = (now ≡ playing.Below) × Makes (Take most) (take_answer got room) below below' × (real' ≡ real)
TakesAs most got room playing.Real now below below' real real' = (now ≡ playing.Real) × Makes (Take most) (take_answer got room) real real' × (below' ≡ below)
TakesAs most got room (playing.Again past) now below below' real real' = TakesPast most got room past now × (below' ≡ below) × (real' ≡ real)

-- what a `finish` does: a program that is answered again has the code that it had
abbrev pub FinishesAs : Finished → Playing → HostView → HostView → HostView → HostView → Type 0
FinishesAs finished playing.Below below below' real real' = Makes Finish (AnswerFinish finished) below below' × (real' ≡ real)
FinishesAs finished playing.Real below below' real real' = Makes Finish (AnswerFinish finished) real real' × (below' ≡ below)
FinishesAs finished (playing.Again past) below below' real real' = (finished ≡ Code past.code) × (below' ≡ below) × (real' ≡ real)
