-- That a run has delivered nothing for good where it was out of memory, but for what stands in the way of that.
use Rattle.std.specs.Prelude.{◌≡◌, Bool, true, false, ◌&&◌, List, ◌∷◌, ◌++◌}
use Rattle.pm_recipe.specs.Tree.{Top, Recipe, Block}
use Rattle.pm_journal.specs.declared.acts.Entry.{Entry}
use Rattle.pm_meaning.specs.Abstracts.{logs_last}
use Rattle.pm_meaning.specs.Courses.{Course}
use Rattle.pm_meaning.specs.Delivering.{no_flags}
use Rattle.pm_meaning.specs.Ends.{is_delivered, is_trapped}
use Rattle.pm_meaning.specs.Minds.{Mind}
use Rattle.pm_meaning.specs.Running.{State, Running, FallingOff, Leaving, Over, Trapping, Unlocking, Closing, Do}
use Rattle.pm_perform.specs.Undelivered.{any_delivers, any_hinders}
use Rattle.pm_run.specs.RunningOut.{AreJudged}

-- the process stands at a recipe that asks for a copy
abbrev pub asks_copy : State → Bool
asks_copy (Running (Do (Recipe top act) ∷ rest) p) = top.flags.copy
asks_copy other = false

-- the process has ended
abbrev pub has_ended : State → Bool
has_ended (Leaving locks end p) = true
has_ended (Over end p) = true
has_ended (Trapping end p) = true
has_ended (Unlocking ending p) = true
has_ended (Closing ending p) = true
has_ended other = false

-- the abstract of a delivery is logged now, or TRAP's program runs
abbrev pub is_told : State → Bool
is_told (Over end p) = is_delivered end && logs_last p
is_told (Trapping end p) = is_trapped end p
is_told other = false

-- of these entries of a recipe the last ones are its action's, and none of them delivered the mail
pub record ActsWithout (top : Top) (p : Mind) (entries : List Entry) : Type 0 where
  pub judged : List Entry
  pub acted : List Entry
  pub parts : entries ≡ judged ++ acted
  pub conditions : AreJudged top p judged acted
  pub none : any_delivers top.flags acted ≡ false

-- by these entries of the step from this state no recipe and no default mailbox got the mail
abbrev pub StepsWithout : State → List Entry → Type 0
StepsWithout (Running (Do (Recipe top (Block trees)) ∷ rest) p) entries = Unit {0}
StepsWithout (Running (Do (Recipe top act) ∷ rest) p) entries = ActsWithout top p entries
StepsWithout (FallingOff (mailbox ∷ rest) p) entries = any_delivers no_flags entries ≡ false
StepsWithout other entries = Unit {0}

-- Where no copy was asked for, no entry of the step is a hindrance, and neither an abstract was logged nor TRAP's program ran, the process
-- hadn't ended, and the step delivered nothing.
abbrev pub HasNotDelivered : Course → List Entry → Type 0
HasNotDelivered c entries =
    asks_copy c.at ≡ false → any_hinders entries ≡ false → is_told c.at ≡ false → (has_ended c.at ≡ false) × StepsWithout c.at entries
