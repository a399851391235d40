use Rattle.std.proofs.Common.{◌≡◌, drop, option_copied}
use Rattle.explain_run.specs.Heard.{last_from, last_note}
use Rattle.explain_run.proofs.heard.last_note.Given as goal

abbrev pub invariant-loop-note : goal.invariant-loop-note
invariant-loop-note l = last_from (drop l.note-index l.notes) l.index (option_copied l.found) ≡ last_note l.notes l.index
