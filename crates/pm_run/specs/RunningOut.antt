-- Where a run may be out of memory, and that no recipe has delivered the mail for good there.
use Rattle.std.specs.Prelude.{◌≡◌, ◌&&◌, ◌⊎◌, true, false, List, [], ◌∷◌, ◌++◌}
use Rattle.pm_host.specs.declared.calls.Logged.{Logged}
use Rattle.pm_recipe.specs.Tree.{Top, Recipe, Block}
use Rattle.pm_recipe.specs.declared.tree.Flags.{Flags}
use Rattle.pm_journal.specs.JournalState.{JournalState}
use Rattle.pm_journal.specs.Entries.{View}
use Rattle.pm_journal.specs.Executed.{WantsAct, HasEnded}
use Rattle.pm_journal.specs.Plan.{Plan, Ends, Plays, Wants}
use Rattle.pm_journal.specs.Walking.{Next, ArrivesAt, Interrupted, Abandoned}
use Rattle.pm_journal.specs.declared.acts.Act.{Act}
use Rattle.pm_journal.specs.declared.acts.Entry.{Entry}
use Rattle.pm_meaning.specs.Abstracts.{logs_last}
use Rattle.pm_meaning.specs.Courses.{Course, advance}
use Rattle.pm_meaning.specs.Delivering.{no_flags}
use Rattle.pm_meaning.specs.Ends.{is_delivered, is_trapped}
use Rattle.pm_meaning.specs.Judging.{judge_first}
use Rattle.pm_meaning.specs.Minds.{Mind}
use Rattle.pm_meaning.specs.Running.{State, Running, FallingOff, Leaving, Over, Trapping, Unlocking, Closing, Do}
use Rattle.pm_meaning.specs.Turns.{Turn, GoesOn}
use Rattle.pm_meaning.specs.declared.ending.Ending.{Ending}
use Rattle.pm_perform.specs.Undelivered.{any_delivers, any_hinders}

-- where the flags ask for no copy these entries delivered nothing, unless one of them is a hindrance
abbrev pub NoDelivery : Flags → List Entry → Type 0
NoDelivery flags entries = flags.copy ≡ false → any_hinders entries ≡ false → any_delivers flags entries ≡ false

-- the conditions of a recipe alone, as before an action that does nothing
abbrev pub conditions_of : Top → Mind → Plan Turn
conditions_of top p = judge_first top (λ q. Ends (GoesOn q)) p

-- the conditions were judged, or memory was wanting in them, and nothing of the action was done
abbrev pub AreJudged : Top → Mind → List Entry → List Entry → Type 0
AreJudged top p judged acted =
    ((turn : Turn) × Plays (conditions_of top p) judged turn) ⊎ ((act : Act) × Wants (conditions_of top p) judged act × (acted ≡ []))

-- of these entries of a recipe the last ones are its action's, and they delivered nothing for good
pub record LeavesUndelivered (top : Top) (p : Mind) (entries : List Entry) : Type 0 where
  pub judged : List Entry
  pub acted : List Entry
  pub parts : entries ≡ judged ++ acted
  pub conditions : AreJudged top p judged acted
  pub none : NoDelivery top.flags acted

-- After these entries of the step from this state memory may be wanting. At a recipe without a block, and at a default mailbox, they
-- delivered nothing for good. Once a process has ended, memory is wanting only for the line about a lock file that can't be removed,
-- for the abstract of a delivery, and for TRAP. Any other step delivers nothing.
abbrev pub MayRunOut : State → List Entry → Type 0
MayRunOut (Running (Do (Recipe top (Block trees)) ∷ rest) p) entries = Unit {0}
MayRunOut (Running (Do (Recipe top act) ∷ rest) p) entries = LeavesUndelivered top p entries
MayRunOut (FallingOff (mailbox ∷ rest) p) entries = NoDelivery no_flags entries
MayRunOut (Leaving locks end p) entries = any_hinders entries ≡ true
MayRunOut (Over end p) entries = (is_delivered end && logs_last p) ≡ true
MayRunOut (Trapping end p) entries = is_trapped end p ≡ true
MayRunOut (Unlocking ending p) entries = any_hinders entries ≡ true
MayRunOut (Closing ending p) entries = ⊥
MayRunOut other entries = Unit {0}

-- the same of a run, by where its process stands
abbrev pub RunMayRunOut : Course → List Entry → Type 0
RunMayRunOut c entries = MayRunOut c.at entries

-- Over a first part of these entries the process had come to a state, and memory was wanting in the step from there: the rest are that
-- step's, and an act was left off after these calls. At that state it may have been.
pub record RanOutAt {S X : Type 0} (step : S → Plan (Next S X)) (may : S → List Entry → Type 0) (s : S) (entries : List Entry) (calls : List Logged) : Type 0 where
  pub at : S
  pub before : List Entry
  pub begun : List Entry
  pub parts : entries ≡ before ++ begun
  pub arrives : ArrivesAt {X = X} step s before at
  pub off : WantsAct (step at) begun calls ⊎ HasEnded (step at) begun calls
  pub allowed : may at begun

-- memory was wanting in the process, where it may be
pub record RunsOut {S X : Type 0} (step : S → Plan (Next S X)) (may : S → List Entry → Type 0) (s : S) (old new : JournalState) (before after : View) : Type 0 where
  pub interrupted : Interrupted {X = X} step s old new before after
  pub place : RanOutAt {X = X} step may s interrupted.more interrupted.left_off

-- memory was wanting in the run, where it may be, and then each lock that its entries had left held was given back
pub record GaveUp (c : Course) (old new : JournalState) (before after : View) : Type 0 where
  pub abandoned : Abandoned {X = Ending} advance c old new before after
  pub place : RanOutAt {X = Ending} advance RunMayRunOut c abandoned.done abandoned.left_off

-- this holds of what was noted since
abbrev pub OfNew : (List Entry → Type 0) → JournalState → JournalState → Type 0
OfNew holds old new = (more : List Entry) → new.entries ≡ old.entries ++ more → holds more

-- one of the entries that were noted since is a hindrance
abbrev pub HinderedSince : JournalState → JournalState → Type 0
HinderedSince old new = OfNew (λ entries. any_hinders entries ≡ true) old new
