use Rattle.std.proofs.Common.{◌≡◌, ◌++◌, [], drop}
use Rattle.explain_notes.specs.Shown.{woven}
use Rattle.explain_notes.specs.Told.{all_told}
use Rattle.explain_notes.proofs.shown.weave.Given as goal

-- what is shown so far, and what is shown after that
abbrev pub invariant-loop-note : goal.invariant-loop-note
invariant-loop-note l =
    l.shown.items ++ woven l.before l.left (all_told l.reads l.standing.rcfile.now l.standing.lines.now (drop l.note-index l.notes))
    ≡ woven 0 l.entries (all_told l.reads [] [] l.notes)
