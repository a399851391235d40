use Rattle.std.proofs.Common.{◌≡◌, drop}
use Rattle.explain_run.specs.Heard.{is_of_condition}
use Rattle.explain_run.proofs.heard.is_of_condition.Given as goal

abbrev pub invariant-loop-note : goal.invariant-loop-note
invariant-loop-note l = is_of_condition (drop l.note-index l.notes) l.index ≡ is_of_condition l.notes l.index
