use Rattle.std.proofs.Common.{◌≡◌, ◌++◌, take}
use Rattle.check_find.specs.Reports.{lines_of, unread_in, unread_of}
use Rattle.check_find.proofs.reports.put_conditions.Given as goal

-- so far
abbrev pub invariant-loop-span : goal.invariant-loop-span
invariant-loop-span l =
    (lines_of l.findings.items ≡ lines_of l.fn.findings.items)
    × (unread_in l.findings.items ≡ unread_in l.fn.findings.items ++ unread_of (take l.span-index l.spans))
