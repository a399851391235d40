use Rattle.std.proofs.Common.{◌≡◌}
use Rattle.check_find.specs.Reports.{lines_of, unread_in}
use Rattle.check_find.proofs.reports.put_mistakes.Given as goal

-- mistakes tell of nothing else
abbrev pub invariant-loop-notice : goal.invariant-loop-notice
invariant-loop-notice l = (lines_of l.findings.items ≡ lines_of l.fn.findings.items) × (unread_in l.findings.items ≡ unread_in l.fn.findings.items)
