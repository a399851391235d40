-- A text has one list of statements.
use Rattle.std.proofs.Common.{◌≡◌, ℕ, List, ap, sym, ◌∙◌, ◌++◌, subst}
use Rattle.pm_recipe.specs.Tree.{Trees}
use Rattle.pm_recipe.specs.Build.{tree_of_items}
use Rattle.pm_recipe.specs.Reads.{items_of}
use Rattle.pm_recipe.specs.Spans.{start}
use Rattle.pm_recipe.specs.Spells.{Piece, IsCut, end_of, spans_of}
use Rattle.pm_recipe.specs.Rc.{IsRc}
use Rattle.pm_recipe.specs.Listed.{pieces_of, items_from, rc_of}
use Rattle.pm_recipe.specs.Ends.{no_blocks, blocks_behind, closings}
use Rattle.pm_recipe.proofs.Pieces.{cut-text}
use Rattle.pm_recipe.proofs.OneCut.{one-cut-text}
use Rattle.pm_recipe.specs.Lists.{Lists}
use Rattle.pm_recipe.proofs.Saying.{all-once, all-some}
use Rattle.pm_recipe.proofs.Listing.{lists-tree}
use Rattle.pm_recipe.proofs.Parsing.{listed-cut}

pub rc-built : (bytes : List ℕ) (statements : Trees) → statements ≡ rc_of bytes → IsRc bytes statements
rc-built bytes statements is = record {
  pieces = pieces_of bytes;
  items = items_of (spans_of (pieces_of bytes));
  cut = cut-text bytes;
  said = all-some 1 start (pieces_of bytes) bytes (cut-text bytes);
  listed = subst (λ t. Lists (items_from start no_blocks (pieces_of bytes)) t) (sym is) (listed-cut (pieces_of bytes) bytes (cut-text bytes));
}

pub built-rc : (bytes : List ℕ) (statements : Trees) → IsRc bytes statements → statements ≡ rc_of bytes
built-rc bytes statements r =
    let ends = closings (end_of start r.pieces).depth (blocks_behind no_blocks (spans_of r.pieces)) in
    lists-tree (r.items ++ ends) statements r.listed ∙ ap (λ is. tree_of_items (is ++ ends)) (all-once (spans_of r.pieces) r.items r.said)
    ∙ ap (λ ps. tree_of_items (items_from start no_blocks ps)) (one-cut-text bytes r.pieces r.cut)

pub one-cut : (bytes : List ℕ) (pieces others : List Piece) → IsCut 1 start pieces bytes → IsCut 1 start others bytes → pieces ≡ others
one-cut bytes pieces others c d = one-cut-text bytes pieces c ∙ sym (one-cut-text bytes others d)
