use Rattle.std.proofs.Common.{◌≡◌, drop}
use Rattle.pm_meaning.specs.Abstracts.{subject_part}
use Rattle.pm_meaning.proofs.abstracts.first_subject.Given as goal

abbrev pub invariant-loop-field : goal.invariant-loop-field
invariant-loop-field l = subject_part l.fields ≡ subject_part (drop l.field-index l.fields)
