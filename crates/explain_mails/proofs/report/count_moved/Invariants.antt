use Rattle.std.proofs.Common.{◌≡◌, ◌≤◌, ◌+◌, drop, count_by}
use Rattle.explain_mails.specs.Compared.{goes_elsewhere}
use Rattle.explain_mails.proofs.report.count_moved.Given as goal

abbrev pub invariant-loop-mail : goal.invariant-loop-mail
invariant-loop-mail l = (l.count ≤ l.mail-index) × (l.count + count_by goes_elsewhere (drop l.mail-index l.mails) ≡ count_by goes_elsewhere l.mails)
