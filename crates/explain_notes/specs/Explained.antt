-- All lines of a run.
use Rattle.std.specs.Prelude.{ℕ, List, ◌++◌, flat_map}
use Rattle.pm_conds.specs.declared.observer.Note.{Note}
use Rattle.pm_journal.specs.declared.acts.Entry.{Entry}
use Rattle.explain_text.specs.Lines.{step_line, result_line}
use Rattle.explain_text.specs.Steps.{steps_of}
use Rattle.explain_notes.specs.Lines.{told_line}
use Rattle.explain_notes.specs.Shown.{shown_of}
use Rattle.explain_notes.specs.declared.shown.Shown.{Shown}
use Rattle.explain_notes.specs.declared.shown.Shown.TheVariants as shown

-- the line of a step, or of what is told
abbrev pub shown_line : Shown → List ℕ
shown_line (shown.Step step) = step_line step
shown_line (shown.Told told) = told_line told

-- what a run did, with its recipes and their conditions
abbrev pub explained : List Entry → List Note → ℕ → List ℕ
explained entries notes status = flat_map shown_line (shown_of entries notes) ++ result_line (steps_of entries) status
