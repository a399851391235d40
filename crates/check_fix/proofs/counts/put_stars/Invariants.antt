use Rattle.std.proofs.Common.{◌≡◌, ◌++◌, drop}
use Rattle.check_fix.specs.Counts.{star_edits}
use Rattle.check_fix.proofs.counts.put_stars.Given as goal

abbrev pub invariant-loop-span : goal.invariant-loop-span
invariant-loop-span l =
    l.edits.items ++ star_edits l.left (drop l.span-index l.spans) ≡ l.fn.edits.items ++ star_edits l.count l.spans
