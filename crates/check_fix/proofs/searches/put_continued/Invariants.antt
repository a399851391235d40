use Rattle.std.proofs.Common.{◌≡◌, ◌++◌, length}
use Rattle.check_fix.specs.Conditions.{indents_from}
use Rattle.check_fix.proofs.searches.put_continued.Given as goal

abbrev pub invariant-loop-after : goal.invariant-loop-after
invariant-loop-after l =
    l.edits.items ++ indents_from l.span.first l.span.bytes.now l.rest ≡ l.fn.edits.items ++ indents_from l.span.first l.span.bytes.now l.span.bytes.now

abbrev pub decreases-loop-after : goal.decreases-loop-after
decreases-loop-after l = length l.rest
