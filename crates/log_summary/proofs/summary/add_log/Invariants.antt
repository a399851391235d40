use Rattle.std.proofs.Common.{◌≡◌, map}
use Rattle.bstr.specs.Text.{lines_of, without_terminator}
use Rattle.log_summary.specs.Tallies.{deliveries, messages}
use Rattle.log_summary.specs.Days.{from_day}
use Rattle.log_summary.proofs.summary.add_log.Given as goal

-- what is summed, and the lines that are left
abbrev pub invariant-loop-line : goal.invariant-loop-line
invariant-loop-line l =
    (deliveries l.sums.folders (from_day l.awaited l.line-iterator) ≡ deliveries l.initial.sums.folders (from_day l.fn.first (map without_terminator (lines_of l.fn.log))))
    × (messages l.sums.messages (from_day l.awaited l.line-iterator) ≡ messages l.initial.sums.messages (from_day l.fn.first (map without_terminator (lines_of l.fn.log))))
