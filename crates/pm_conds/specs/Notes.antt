-- What is heard while the conditions of a recipe are judged: one note of each that is judged, in order.
use Rattle.std.specs.Prelude.{◌≡◌, ℕ, suc, ℤ, pos, Bool, List, [], ◌∷◌, ◌++◌, length, Option, Some, None}
use Rattle.std.specs.List.{list_any}
use Rattle.pm_host.specs.Told.{Tells, Adds}
use Rattle.pm_recipe.specs.declared.tree.Condition.{Condition}
use Rattle.pm_recipe.specs.declared.tree.Flags.{Flags}
use Rattle.pm_journal.specs.JournalState.{JournalState}
use Rattle.pm_journal.specs.Plan.{Plan, Ends, Asks, and_then, Plays}
use Rattle.pm_journal.specs.declared.acts.Entry.{Entry}
use Rattle.pm_meaning.specs.Evaluating.{Course, judged_one, is_weighted}
use Rattle.pm_meaning.specs.Judging.{Come, comes_of, Judged, judge, scored_with, with_table, Held, after_judgement}
use Rattle.pm_meaning.specs.Minds.{Mind}
use Rattle.pm_meaning.specs.Weighing.{end_of_all}
use Rattle.pm_conds.specs.declared.observer.Note.{Note}
use Rattle.pm_conds.specs.declared.observer.Note.TheVariants as note

-- what a plan ends with, and how many entries there are then
pub record Counted (R : Type 0) : Type 0 where
  pub end : R
  pub entries : ℕ

-- an end with that number
abbrev pub counted_with : {R : Type 0} → R → ℕ → Counted R
counted_with end n = record { end = end; entries = n }

-- the plan after so many entries, which ends with their number
abbrev pub counted : {R : Type 0} → ℕ → Plan R → Plan (Counted R)
counted n (Ends r) = Ends (counted_with r n)
counted n (Asks act go_on) = Asks act (λ reply. counted (suc n) (go_on reply))

-- what came of the conditions, and the notes of them
pub record Noted : Type 0 where
  pub judged : Judged
  pub notes : List Note

-- the same by its parts
abbrev pub noted_with : Judged → List Note → Noted
noted_with judged notes = record { judged = judged; notes = notes }

-- the note of a condition: what came of it, and the score and the number of entries after it
abbrev pub note_of : Counted Come → Course → Note
note_of come course = note.Judged come.end.outcome course.total come.entries

-- a condition has its note after those before it; it ended the judging, or the rest comes
abbrev pub noted_by : Bool → Counted Come → Course → List Note → (ℤ → Mind → List Note → Plan Noted) → Plan Noted
noted_by weighted come course notes go_on = elim course.end [
  | None ↦ go_on course.total (with_table course.vars come.end.mind) (notes ++ note_of come course ∷ [])
  | Some end ↦
      Ends (noted_with (scored_with weighted end course.total (with_table course.vars come.end.mind)) (notes ++ note_of come course ∷ []))
]

-- the conditions are judged in order, up to one that ends it, after so many entries and with these notes
abbrev pub note_each : Bool → Flags → List Condition → ℤ → Mind → ℕ → List Note → Plan Noted
note_each weighted flags [] total p n notes = Ends (noted_with (scored_with weighted (end_of_all weighted total) total p) notes)
note_each weighted flags (condition ∷ rest) total p n notes =
    and_then (counted n (comes_of condition flags p))
    (λ come. noted_by weighted come (judged_one condition.text come.end.outcome total come.end.mind.vars) notes
    (λ score q heard. note_each weighted flags rest score q come.entries heard))

-- the conditions of a recipe after so many entries; the score begins at 0
abbrev pub note_all : List Condition → Flags → Mind → ℕ → Plan Noted
note_all conditions flags p n = note_each (list_any is_weighted conditions) flags conditions (pos 0) p n []

-- over the new entries the conditions were judged so, and the observer heard the note of each
pub record Hears (conditions : List Condition) (flags : Flags) (p : Mind) (judged : Judged) (old new : JournalState) (before after : Option (List Note)) : Type 0 where
  pub more : List Entry
  pub entries : new.entries ≡ old.entries ++ more
  pub notes : List Note
  pub plays : Plays (note_all conditions flags p (length old.entries)) more (noted_with judged notes)
  pub told : Tells (Adds notes) before after

-- so it did, and then what came of them was told
pub record HearsHeld (conditions : List Condition) (flags : Flags) (p : Mind) (held : Held) (old new : JournalState) (before after : Option (List Note)) : Type 0 where
  pub judged : Judged
  pub middle : JournalState
  pub hears : Hears conditions flags p judged old middle before after
  pub more : List Entry
  pub entries : new.entries ≡ middle.entries ++ more
  pub plays : Plays (after_judgement judged) more held

-- what is judged with notes is what the meaning judges
abbrev pub NotesAreMeant : Type 0
NotesAreMeant = (conditions : List Condition) (flags : Flags) (p : Mind) (n : ℕ) (entries : List Entry) (noted : Noted)
    → Plays (note_all conditions flags p n) entries noted → Plays (judge conditions flags p) entries noted.judged
