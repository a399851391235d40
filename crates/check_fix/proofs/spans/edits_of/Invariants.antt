use Rattle.std.proofs.Common.{◌≡◌, ◌++◌, drop}
use Rattle.check_fix.specs.Scores.{is_free}
use Rattle.check_fix.specs.Spans.{edits_among, edits_of}
use Rattle.check_fix.proofs.spans.edits_of.Given as goal

abbrev pub invariant-loop-i : goal.invariant-loop-i
invariant-loop-i l =
    l.edits.items ++ edits_among l.spans l.colon l.score (drop l.i l.spans) l.left ≡ edits_of l.spans l.initial.findings
