use Rattle.std.proofs.Common.{◌≡◌, ◌≤◌, ◌+◌, length}
use Rattle.pm_recipe.specs.Build.{tree_of_items}
use Rattle.pm_recipe.specs.Builder.{whole, built_of, Suits, Stands}
use Rattle.pm_recipe.specs.Ends.{Blocks, no_blocks}
use Rattle.pm_recipe.specs.Spans.{start}
use Rattle.pm_recipe.specs.Opens.{Knows}
use Rattle.pm_recipe.proofs.Left.{IsLeft}
use Rattle.pm_recipe.proofs.Pieces.{items_at}
use Rattle.pm_recipe.proofs.reader.read_statements.Given as goal

abbrev pub invariant-loop-rest : goal.invariant-loop-rest
invariant-loop-rest l = record {
  knows : Knows l.known.items l.bytes;
  left : IsLeft l.rest l.bytes;
  line : l.line + length l.rest ≤ length l.bytes + 1;
  depth : l.situation.depth + length l.rest ≤ length l.bytes;
  suits : Suits l.builder l.situation;
  goes_on : (blocks : Blocks) × Stands l.unended l.situation.depth blocks
      × (whole (built_of l.builder) (items_at l.line l.situation blocks l.rest) ≡ tree_of_items (items_at 1 start no_blocks l.bytes));
}

abbrev pub decreases-loop-rest : goal.decreases-loop-rest
decreases-loop-rest l = length l.rest
