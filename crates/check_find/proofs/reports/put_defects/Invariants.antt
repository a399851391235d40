use Rattle.std.proofs.Common.{◌≡◌, ◌++◌, take}
use Rattle.check_find.specs.Reports.{lines_of, unread_in}
use Rattle.check_find.proofs.reports.put_defects.Given as goal

-- so far
abbrev pub invariant-loop-line : goal.invariant-loop-line
invariant-loop-line l =
    (lines_of l.findings.items ≡ lines_of l.fn.findings.items ++ take l.line-index l.lines) × (unread_in l.findings.items ≡ unread_in l.fn.findings.items)
