use Rattle.std.proofs.Common.{◌≡◌, ◌++◌, length}
use Rattle.check_fix.specs.Moved.{all_form_edits}
use Rattle.check_fix.proofs.moved.put_forms.Given as goal

abbrev pub invariant-loop-form : goal.invariant-loop-form
invariant-loop-form l =
    l.edits.items ++ all_form_edits l.rest l.span l.spans l.all
    ≡ l.fn.edits.items ++ all_form_edits l.initial.forms l.span l.spans l.all

abbrev pub decreases-loop-form : goal.decreases-loop-form
decreases-loop-form l = length l.rest
