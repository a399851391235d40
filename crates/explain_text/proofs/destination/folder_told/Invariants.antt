use Rattle.std.proofs.Common.{◌≡◌}
use Rattle.explain_text.specs.Destinations.{folder_among, folder_told}
use Rattle.explain_text.proofs.destination.folder_told.Given as goal

abbrev pub invariant-loop-line : goal.invariant-loop-line
invariant-loop-line l = folder_among l.line-iterator ≡ folder_told l.fn.text
