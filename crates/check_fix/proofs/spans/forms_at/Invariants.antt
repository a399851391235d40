use Rattle.std.proofs.Common.{◌≡◌, ◌++◌, length}
use Rattle.check_fix.specs.Spans.{forms_at}
use Rattle.check_fix.proofs.spans.forms_at.Given as goal

abbrev pub invariant-loop-finding : goal.invariant-loop-finding
invariant-loop-finding l = l.forms.items ++ forms_at l.place l.rest ≡ forms_at l.place l.initial.findings

abbrev pub decreases-loop-finding : goal.decreases-loop-finding
decreases-loop-finding l = length l.rest
