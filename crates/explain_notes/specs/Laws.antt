-- What is shown of a run, taken apart again.
use Rattle.std.specs.Prelude.{◌≡◌, List, [], ◌∷◌}
use Rattle.pm_journal.specs.declared.acts.Entry.{Entry}
use Rattle.explain_text.specs.Steps.{steps_of}
use Rattle.explain_text.specs.declared.step.Step.{Step}
use Rattle.explain_notes.specs.Shown.{woven}
use Rattle.explain_notes.specs.declared.shown.Shown.{Shown}
use Rattle.explain_notes.specs.declared.shown.Shown.TheVariants as shown
use Rattle.explain_notes.specs.declared.told.Told.{Told}

-- a step stays, and what is told goes
abbrev pub with_step : Shown → List Step → List Step
with_step (shown.Step step) steps = step ∷ steps
with_step (shown.Told told) steps = steps

-- the steps alone
abbrev pub steps_in : List Shown → List Step
steps_in [] = []
steps_in (one ∷ others) = with_step one (steps_in others)

-- what is told stays, and a step goes
abbrev pub with_told : Shown → List Told → List Told
with_told (shown.Step step) all = all
with_told (shown.Told told) all = told ∷ all

-- what is told alone
abbrev pub told_in : List Shown → List Told
told_in [] = []
told_in (one ∷ others) = with_told one (told_in others)

-- each step is shown once, in order, whatever is told between them
abbrev pub StepsStay : Type 0
StepsStay = (entries : List Entry) (all : List Told) → steps_in (woven 0 entries all) ≡ steps_of entries

-- and so is all that is told
abbrev pub NotesStay : Type 0
NotesStay = (entries : List Entry) (all : List Told) → told_in (woven 0 entries all) ≡ all
