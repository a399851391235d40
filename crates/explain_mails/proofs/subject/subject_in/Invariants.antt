use Rattle.std.proofs.Common.{◌≡◌, drop}
use Rattle.explain_mails.specs.Subjects.{subject_in}
use Rattle.explain_mails.proofs.subject.subject_in.Given as goal

abbrev pub invariant-loop-field : goal.invariant-loop-field
invariant-loop-field l = subject_in (drop l.field-index l.fields) ≡ subject_in l.fields
