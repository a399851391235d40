use Rattle.std.proofs.Common.{◌≡◌, ◌≤◌, ◌++◌, length, drop}
use Rattle.check_fix.specs.Changes.{AreApart, rewritten}
use Rattle.check_fix.proofs.changes.rewrite.Given as goal

abbrev pub invariant-loop-change : goal.invariant-loop-change
invariant-loop-change l = record {
  from : l.from ≤ length l.text;
  apart : AreApart l.from (length l.text) l.rest;
  written : l.new ++ drop l.from (rewritten l.rest l.text) ≡ rewritten l.initial.changes l.text;
}

abbrev pub decreases-loop-change : goal.decreases-loop-change
decreases-loop-change l = length l.rest
