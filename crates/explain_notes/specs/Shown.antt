-- The steps of a run, and what is told between them.
use Rattle.std.specs.Prelude.{ℕ, ◌-◌, max, List, [], ◌∷◌, ◌++◌, map, take, drop}
use Rattle.pm_conds.specs.declared.observer.Note.{Note}
use Rattle.pm_journal.specs.declared.acts.Entry.{Entry}
use Rattle.explain_text.specs.Steps.{steps_of}
use Rattle.explain_text.specs.declared.step.Step.{Step}
use Rattle.explain_notes.specs.Reads.{reads_from}
use Rattle.explain_notes.specs.Told.{all_told}
use Rattle.explain_notes.specs.declared.shown.Shown.{Shown}
use Rattle.explain_notes.specs.declared.shown.Shown.TheVariants as shown
use Rattle.explain_notes.specs.declared.told.Told.{Told}

-- steps, with nothing between them
abbrev pub alone : List Step → List Shown
alone steps = map shown.Step steps

-- the steps of entries
abbrev pub did : List Entry → List Shown
did entries = alone (steps_of entries)

-- so many entries were before these; each thing that is told stands after the steps of those that come before it
abbrev pub woven : ℕ → List Entry → List Told → List Shown
woven before entries [] = did entries
woven before entries (told ∷ others) =
    did (take (told.entries - before) entries) ++ shown.Told told ∷ woven (max before told.entries) (drop (told.entries - before) entries) others

-- what is shown of a run
abbrev pub shown_of : List Entry → List Note → List Shown
shown_of entries notes = woven 0 entries (all_told (reads_from 0 entries) [] [] notes)
