-- Laws of the calls that run a child.
use Rattle.std.specs.Prelude.{◌≡◌, ◌≤◌, ◌<◌, ◌⊎◌, ℕ, Bool, List, [], length, take}
use Rattle.pm_host.specs.World.{World, after_others}
use Rattle.pm_host.specs.Runs.{SomeFailed, after_calls, child_after}
use Rattle.pm_host.specs.declared.answers.Child.TheVariants.{NoChild}
use Rattle.pm_host.specs.declared.command.Command.{Command}
use Rattle.pm_host.specs.declared.calls.Logged.{Logged}
use Rattle.pm_journal.specs.Appending.{IsFront}
use Rattle.pm_journal.specs.Entries.{IsFaulty}
use Rattle.pm_journal.specs.Children.{RunGroup, LeftRun, fed_bytes, taken_bytes, after_run}
use Rattle.pm_journal.specs.Replies.{IsRunReply}
use Rattle.pm_journal.specs.declared.acts.Reply.{Reply}
use Rattle.pm_journal.specs.declared.acts.Reply.TheVariants.{Ended, NotStarted, Broken, TooLong}

-- what a child took and gave: the first bytes of its input, as many as are stated, and the output that came
abbrev pub RanRight : List ℕ → Reply → List Logged → Type 0
RanRight input (Ended code took output) calls = (took ≤ length input) × (fed_bytes calls ≡ take took input) × (taken_bytes calls ≡ output)
RanRight input (Broken took) calls = (took ≤ length input) × (fed_bytes calls ≡ take took input)
RanRight input (TooLong count) calls = (length (taken_bytes calls) ≡ count) × (67108864 < count) × IsFront (fed_bytes calls) input
RanRight input other calls = fed_bytes calls ≡ []

-- a child that was started changes the files by the others' next batch alone, and others do no more than that
abbrev pub ChangesAsOthers : Reply → World → World → Type 0
ChangesAsOthers NotStarted old new = new ≡ old
ChangesAsOthers other old new =
    (new.nodes ≡ (after_others old).nodes) × (new.moment ≡ (after_others old).moment) × (new.others ≡ (after_others old).others)

-- a child took the first bytes of its input, as many as are stated, and its output is what came
abbrev pub ChildrenRunRight : Type 0
ChildrenRunRight = (command : Command) (input : List ℕ) (want : Bool) (reply : Reply) (calls : List Logged) → RunGroup command input want reply calls
    → RanRight input reply calls

-- The tree is what the run of the child makes of it, and in its files only others made changes.
abbrev pub ChildrenChangeNothing : Type 0
ChildrenChangeNothing = (command : Command) (input : List ℕ) (want : Bool) (reply : Reply) (calls : List Logged) (w : World) → RunGroup command input want reply calls
    → (after_calls calls w ≡ after_run reply command calls w) × ChangesAsOthers reply w (after_calls calls w)

-- a reply of running a child that tells of a fault has a failed call, and every reply is one that this can have
abbrev pub ChildFaultsHaveCalls : Type 0
ChildFaultsHaveCalls = (command : Command) (input : List ℕ) (want : Bool) (reply : Reply) (calls : List Logged) → RunGroup command input want reply calls
    → IsRunReply reply × (IsFaulty reply → SomeFailed calls)

-- after the calls that run a child no child runs, where none ran before; nor where the taking of its output was left off
abbrev pub ChildrenEnd : Type 0
ChildrenEnd = (command : Command) (input : List ℕ) (want : Bool) (reply : Reply) (calls : List Logged)
    → (RunGroup command input want reply calls ⊎ LeftRun command input calls) → child_after calls NoChild ≡ NoChild
