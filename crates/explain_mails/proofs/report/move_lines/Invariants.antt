use Rattle.std.proofs.Common.{◌≡◌, ◌++◌, drop, flat_map}
use Rattle.explain_mails.specs.Lines.{listed}
use Rattle.explain_mails.proofs.report.move_lines.Given as goal

abbrev pub invariant-loop-mail : goal.invariant-loop-mail
invariant-loop-mail l = l.lines ++ flat_map listed (drop l.mail-index l.mails) ≡ flat_map listed l.mails
