use Rattle.std.proofs.Common.{◌≡◌, ◌++◌, map, drop}
use Rattle.pm_recipe.specs.Cuts.{piece_of}
use Rattle.explain_notes.specs.Steps.{conditions_in}
use Rattle.explain_notes.proofs.rcfile.conditions_in.Given as goal

-- what is gathered, and what is ahead
abbrev pub invariant-loop-span : goal.invariant-loop-span
invariant-loop-span l = l.lines.items ++ conditions_in (map piece_of (drop l.span-index l.spans)) ≡ conditions_in (map piece_of l.spans)
