use Rattle.std.proofs.Common.{◌≡◌, ◌++◌, length}
use Rattle.check_moving.specs.Found.{at_span}
use Rattle.check_moving.proofs.searching.put.Given as goal

abbrev pub invariant-loop-form : goal.invariant-loop-form
invariant-loop-form l = l.findings.items ++ at_span l.span l.rest ≡ l.fn.findings.items ++ at_span l.span l.initial.forms

abbrev pub decreases-loop-form : goal.decreases-loop-form
decreases-loop-form l = length l.rest
