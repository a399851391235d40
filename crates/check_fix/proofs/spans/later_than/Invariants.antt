use Rattle.std.proofs.Common.{◌≡◌, length}
use Rattle.check_fix.specs.Spans.{later_than}
use Rattle.check_fix.proofs.spans.later_than.Given as goal

abbrev pub invariant-loop-finding : goal.invariant-loop-finding
invariant-loop-finding l = later_than l.place l.rest ≡ later_than l.place l.initial.findings

abbrev pub decreases-loop-finding : goal.decreases-loop-finding
decreases-loop-finding l = length l.rest
