use Rattle.std.proofs.Common.{◌≡◌, ◌++◌, take, drop}
use Rattle.explain_mails.specs.Subjects.{shortened}
use Rattle.explain_mails.proofs.columns.shortened.Given as goal

abbrev pub invariant-loop-place : goal.invariant-loop-place
invariant-loop-place l = take l.place l.text ++ shortened l.left (drop l.place l.text) ≡ shortened l.most l.text
