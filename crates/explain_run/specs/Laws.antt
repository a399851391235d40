-- No program that gets the mail as a delivery is started.
use Rattle.std.specs.Prelude.{◌≡◌, ◌≤◌, ◌<◌, ◌+◌, ℕ, true, false, List, [], ◌∷◌, ◌++◌, length, Some}
use Rattle.pm_conds.specs.Notes.{Noted, note_all}
use Rattle.pm_conds.specs.declared.observer.Note.{Note}
use Rattle.pm_conds.specs.declared.observer.Note.TheVariants.{CameTo, Judged}
use Rattle.pm_host.specs.declared.command.Command.{Command}
use Rattle.pm_journal.specs.declared.acts.Act.TheVariants.{Run}
use Rattle.pm_journal.specs.Plan.{Plays}
use Rattle.pm_journal.specs.declared.acts.Entry.{Entry}
use Rattle.pm_meaning.specs.Minds.{Mind}
use Rattle.pm_recipe.specs.declared.tree.Condition.{Condition}
use Rattle.pm_recipe.specs.declared.tree.Flags.{Flags}
use Rattle.explain_run.specs.Heard.{comes_after, is_of_condition}
use Rattle.explain_run.specs.Starting.{start_of}

-- each of these notes comes before the entry
abbrev pub AllBefore : List Note → ℕ → Type 0
AllBefore [] index = Unit {0}
AllBefore (note ∷ notes) index = (comes_after note index ≡ false) × AllBefore notes index

-- after the entry the run comes to a recipe, or to no recipe and no condition any more
abbrev pub GoesOn : List Note → ℕ → Type 0
GoesOn [] index = Unit {0}
GoesOn (CameTo rcfile place admitted entries ∷ notes) index = comes_after (CameTo rcfile place admitted entries) index ≡ true
GoesOn (Judged outcome score entries ∷ notes) index = ⊥

-- A program whose output isn't wanted isn't started if no condition is judged between it and the next recipe. So are those of
-- deliveries and forwards, which come after the conditions of their recipe, and that of TRAP.
abbrev pub DeliveriesStay : Type 0
DeliveriesStay = (lines : List (List ℕ)) (entries : List Entry) (before after : List Note) (index : ℕ) (command : Command) (input : List ℕ)
    → AllBefore before index → GoesOn after index → start_of lines entries (before ++ after) index (Run command input false) ≡ Some false

-- Each entry that is made while the conditions of a recipe are judged is found to be of a condition, whatever was heard before
-- it and is heard after these conditions.
abbrev pub FindsConditions : Type 0
FindsConditions = (conditions : List Condition) (flags : Flags) (p : Mind) (n : ℕ) (entries : List Entry) (noted : Noted) → Plays (note_all conditions flags p n) entries noted
    → (before after : List Note) (index : ℕ) → AllBefore before index → n ≤ index → index < n + length entries → is_of_condition (before ++ (noted.notes ++ after)) index ≡ true

-- And no later entry is, by the notes of these conditions.
abbrev pub LeavesActions : Type 0
LeavesActions = (conditions : List Condition) (flags : Flags) (p : Mind) (n : ℕ) (entries : List Entry) (noted : Noted) → Plays (note_all conditions flags p n) entries noted
    → (index : ℕ) → n + length entries ≤ index → AllBefore noted.notes index
