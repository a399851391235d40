-- How programs are started, fed, heard and waited for: those of own code, and those of the host below.
use Rattle.std.specs.Prelude.{◌≡◌, ℕ, Bool, true, List, [], ◌++◌, length, Option, Some, None}
use Rattle.pm_host.specs.Told.{HostView, Makes}
use Rattle.pm_host.specs.Answers.{take_answer}
use Rattle.pm_host.specs.declared.answers.Child.{Child}
use Rattle.pm_host.specs.declared.answers.Started.{Started as StartAnswer}
use Rattle.pm_host.specs.declared.answers.Started.TheVariants.{Started as StartedOk, Failed as StartFailed}
use Rattle.pm_host.specs.declared.answers.Fed.{Fed}
use Rattle.pm_host.specs.declared.answers.Fed.TheVariants.{Took as FedSome, Closed, Failed as FeedFailed}
use Rattle.pm_host.specs.declared.answers.Got.{Got}
use Rattle.pm_host.specs.declared.answers.Got.TheVariants.{Got as GotSome, Failed as GotFailed}
use Rattle.pm_host.specs.declared.answers.Finished.{Finished}
use Rattle.pm_host.specs.declared.answers.Finished.TheVariants.{Code, Signal, Failed as FinishFailed}
use Rattle.pm_host.specs.declared.calls.Call.TheVariants.{Start, Feed, Take, Finish}
use Rattle.pm_host.specs.declared.calls.Answer.TheVariants.{Start as AnswerStart, Feed as AnswerFeed, Finish as AnswerFinish}
use Rattle.pm_host.specs.declared.command.Command.{Command}
use Rattle.pm_overlay.specs.Steps.{quiet}
use Rattle.explain_host.specs.Answering.{GivesNext, EndsWith}
use Rattle.pm_overlay.specs.declared.tool.Tool.{Tool}
use Rattle.explain_host.specs.declared.program.Program.{Program}

-- whether a child runs: the program of own code that was started last, or else a child of the host below
abbrev pub child_of : Option Program → Child → Child → Child
child_of (Some program) own below = own
child_of None own below = below

-- what the host tells: its count of faults, and whether a child runs
abbrev pub own_view : ℕ → Option Program → Child → HostView → HostView
own_view faults program child below = quiet faults (child_of program child below.child)

-- the program has the command, and got nothing yet
pub record IsNew (tool : Tool) (command : Command) (program : Program) : Type 0 where
  pub tool_is : program.tool ≡ tool
  pub command_is : program.command ≡ command
  pub input : program.input ≡ []
  pub output : program.output ≡ None

-- the program of a command, where own code answers it
abbrev pub StartsProgram : Option Tool → Command → Option Program → Type 0
StartsProgram (Some tool) command (Some program) = IsNew tool command program
StartsProgram (Some tool) command None = ⊥
StartsProgram None command (Some program) = ⊥
StartsProgram None command None = Unit {0}

-- A `start` that is done. Where own code answers the command its program is new, and the host below takes no call.
abbrev pub StartsAs : Option Tool → Command → Bool → StartAnswer → HostView → HostView → Option Program → Type 0
StartsAs (Some tool) command want StartedOk below below' new = StartsProgram (Some tool) command new × (below' ≡ below)
StartsAs None command want StartedOk below below' new =
    (new ≡ None) × Makes (Start command want) (AnswerStart StartedOk) below below'
StartsAs code command want StartFailed below below' new = Unit {0}

-- a program of own code takes all of a piece
abbrev pub FeedsProgram : List ℕ → Fed → Program → Option Program → Type 0
FeedsProgram piece (FedSome n) old new = (n ≡ length piece) × (new ≡ Some (record old { input = old.input ++ piece }))
FeedsProgram piece Closed old new = ⊥
FeedsProgram piece FeedFailed old new = new ≡ Some old

-- a `feed`
abbrev pub FeedsAs : List ℕ → Fed → Option Program → Option Program → HostView → HostView → Type 0
FeedsAs piece fed (Some program) new below below' = FeedsProgram piece fed program new × (below' ≡ below)
FeedsAs piece fed None new below below' = (new ≡ None) × Makes (Feed piece) (AnswerFeed fed) below below'

-- the bytes that came are the next of the output of a program of own code
abbrev pub TakesProgram : ℕ → Got → List ℕ → Program → Option Program → Type 0
TakesProgram most (GotSome n) room old (Some new) = GivesNext most (GotSome n) room old new
TakesProgram most (GotSome n) room old None = ⊥
TakesProgram most GotFailed room old new = Unit {0}

-- a `take`
abbrev pub TakesAs : ℕ → Got → List ℕ → Option Program → Option Program → HostView → HostView → Type 0
TakesAs most got room (Some program) new below below' = TakesProgram most got room program new
TakesAs most got room None new below below' = (new ≡ None) × Makes (Take most) (take_answer got room) below below'

-- a program of own code ended with the code of its run
abbrev pub FinishesProgram : Finished → Program → Type 0
FinishesProgram (Code code) program = EndsWith code program
FinishesProgram (Signal signal) program = ⊥
FinishesProgram FinishFailed program = Unit {0}

-- a `finish`
abbrev pub FinishesAs : Finished → Option Program → HostView → HostView → Type 0
FinishesAs finished (Some program) below below' = FinishesProgram finished program
FinishesAs finished None below below' = Makes Finish (AnswerFinish finished) below below'
