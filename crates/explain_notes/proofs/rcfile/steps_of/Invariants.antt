use Rattle.std.proofs.Common.{◌≡◌, ◌++◌, map, drop}
use Rattle.pm_recipe.specs.Cuts.{piece_of}
use Rattle.explain_notes.specs.Steps.{steps_of}
use Rattle.explain_notes.proofs.rcfile.steps_of.Given as goal

-- what is gathered, and what is ahead
abbrev pub invariant-loop-index : goal.invariant-loop-index
invariant-loop-index l = l.steps.items ++ steps_of (map piece_of (drop l.index l.spans)) ≡ steps_of (map piece_of l.spans)
