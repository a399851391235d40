use Rattle.std.proofs.Common.{◌≡◌, drop}
use Rattle.check_fix.specs.Spans.{from_action}
use Rattle.check_fix.proofs.spans.from_action.Given as goal

abbrev pub invariant-loop-i : goal.invariant-loop-i
invariant-loop-i l = from_action (drop l.i l.spans) ≡ from_action l.spans
