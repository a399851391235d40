-- What comes of a recipe before its action.
use Rattle.std.specs.Prelude.{◌≡◌, ℕ, Bool, true, false, List, [], ◌∷◌, Option, length}
use Rattle.pm_host.specs.Told.{Tells, Adds}
use Rattle.pm_recipe.specs.Tree.{Top}
use Rattle.pm_journal.specs.JournalState.{JournalState}
use Rattle.pm_journal.specs.Entries.{View}
use Rattle.pm_journal.specs.Executed.{Executes, LeadsTo}
use Rattle.pm_journal.specs.Plan.{Plan}
use Rattle.pm_meaning.specs.Chains.{is_admitted}
use Rattle.pm_meaning.specs.Judging.{Held, judge_first}
use Rattle.pm_meaning.specs.Minds.{Mind}
use Rattle.pm_meaning.specs.Turns.{Turn, GoesOn}
use Rattle.pm_conds.specs.Notes.{HearsHeld}
use Rattle.pm_conds.specs.declared.observer.Note.{Note}
use Rattle.pm_conds.specs.declared.observer.Note.TheVariants.{CameTo}

-- whatever the action is: it is what is left to do, or the process goes on behind the recipe
abbrev pub ComesTo : Bool → Top → Mind → Mind → JournalState → JournalState → View → View → Type 0
ComesTo true top p q x y a b = (acts : Mind → Plan Turn) → LeadsTo (judge_first top acts p) (acts q) x y a b
ComesTo false top p q x y a b = (acts : Mind → Plan Turn) → Executes (judge_first top acts p) (GoesOn q) x y a b

-- the conditions of a recipe that is admitted were judged, and the observer heard of each; of any other it heard no more
abbrev pub HearsConditions : Bool → Top → Mind → JournalState → JournalState → Option (List Note) → Option (List Note) → Type 0
HearsConditions false top p old new before after = after ≡ before
HearsConditions true top p old new before after = (held : Held) × HearsHeld top.conditions top.flags p held old new before after

-- the observer heard that the run came to the recipe at this place, and then of its conditions
pub record HearsCome (top : Top) (place : ℕ) (p : Mind) (old new : JournalState) (before after : Option (List Note)) : Type 0 where
  pub between : Option (List Note)
  pub came : Tells (Adds (CameTo p.rcfile place (is_admitted top.flags p.chain) (length old.entries) ∷ [])) before between
  pub conditions : HearsConditions (is_admitted top.flags p.chain) top p old new between after
