use Rattle.std.proofs.Common.{◌≡◌, ◌≤◌, ◌+◌, ◌++◌, zero, length, map}
use Rattle.pm_recipe.specs.Cuts.{piece_of, AreInRow}
use Rattle.pm_recipe.specs.Opens.{Knows}
use Rattle.pm_recipe.specs.Listed.{pieces, pieces_of}
use Rattle.pm_recipe.proofs.Left.{IsLeft}
use Rattle.pm_recipe.proofs.Rows.{taken_by}
use Rattle.pm_recipe.proofs.spans.cut_spans.Given as goal

abbrev pub invariant-loop-rest : goal.invariant-loop-rest
invariant-loop-rest l = record {
  knows : Knows l.known.items l.bytes;
  left : IsLeft l.rest l.bytes;
  line : l.line + length l.rest ≤ length l.bytes + 1;
  depth : l.situation.depth + length l.rest ≤ length l.bytes;
  size : taken_by l.spans.items + length l.rest ≡ length l.bytes;
  places : AreInRow 0 l.spans.items;
  goes_on : map piece_of l.spans.items ++ pieces zero l.line l.situation l.rest ≡ pieces_of l.bytes;
}

abbrev pub decreases-loop-rest : goal.decreases-loop-rest
decreases-loop-rest l = length l.rest
