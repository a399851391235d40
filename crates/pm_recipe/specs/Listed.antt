-- The statements of an rcfile as a value, from the left: a text has these, and no others (`one_rc`).
use Rattle.std.specs.Prelude.{ℕ, ◌-◌, zero, suc, List, [], ◌∷◌, ◌++◌, length}
use Rattle.pm_recipe.specs.declared.fronts.Situation.{Situation}
use Rattle.pm_recipe.specs.Tree.{Trees}
use Rattle.pm_recipe.specs.Front.{front_of, before}
use Rattle.pm_recipe.specs.Spans.{span_of, line_past, situation_after, start}
use Rattle.pm_recipe.specs.Spells.{Piece, end_of, spans_of}
use Rattle.pm_recipe.specs.Ends.{Blocks, no_blocks, blocks_behind, closings}
use Rattle.pm_recipe.specs.Item.{Item}
use Rattle.pm_recipe.specs.Reads.{items_of}
use Rattle.pm_recipe.specs.Build.{tree_of_items}

-- the pieces after so many bytes that are passed over
abbrev pub pieces : ℕ → ℕ → Situation → List ℕ → List Piece
pieces skip line situation [] = []
pieces (suc skip) line situation (byte ∷ bytes) = pieces skip (line_past byte line) situation bytes
pieces zero line situation (byte ∷ bytes) =
    let front = front_of situation (byte ∷ bytes) in
    (record { span = span_of front line; bytes = before (byte ∷ bytes) front.behind })
    ∷ pieces (length bytes - length front.behind) (line_past byte line) (situation_after front.kind situation) bytes

-- the pieces of an rcfile
abbrev pub pieces_of : List ℕ → List Piece
pieces_of bytes = pieces zero 1 start bytes

-- what stands in these pieces, from a situation and open blocks on, and where the text ends
abbrev pub items_from : Situation → Blocks → List Piece → List Item
items_from situation blocks pieces =
    items_of (spans_of pieces) ++ closings (end_of situation pieces).depth (blocks_behind blocks (spans_of pieces))

-- the statements of an rcfile
abbrev pub rc_of : List ℕ → Trees
rc_of bytes = tree_of_items (items_from start no_blocks (pieces_of bytes))
