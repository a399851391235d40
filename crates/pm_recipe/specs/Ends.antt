-- The blocks that are open where an rcfile ends, and what is told of them.
use Rattle.std.specs.Prelude.{ℕ, zero, suc, List, [], ◌∷◌, ◌++◌, Bool, true, false, drop, codes}
use Rattle.pm_recipe.specs.declared.fronts.Kind.{Kind}
use Rattle.pm_recipe.specs.declared.fronts.Kind.TheVariants.{Colon, Open, TooDeep, Close}
use Rattle.pm_recipe.specs.Tree.{Defect}
use Rattle.pm_recipe.specs.Item.{Item}
use Rattle.pm_recipe.specs.Item.Item.{Closes, States}
use Rattle.pm_recipe.specs.Spans.{Span}

-- the line of the last colon line, the lines of the recipes whose blocks are open, the innermost first, and whether a block
-- that would be nested too deep ended the reading
pub record Blocks : Type 0 where
  pub colon : ℕ
  pub lines : List ℕ
  pub stopped : Bool

-- before the first span
abbrev pub no_blocks : Blocks
no_blocks = record { colon = 0; lines = []; stopped = false }

-- after a span of this kind, which begins on this line
abbrev pub blocks_after : Kind → ℕ → Blocks → Blocks
blocks_after Colon line blocks = record { colon = line; lines = blocks.lines; stopped = blocks.stopped }
blocks_after Open line blocks = record { colon = blocks.colon; lines = blocks.colon ∷ blocks.lines; stopped = blocks.stopped }
blocks_after TooDeep line blocks = record { colon = blocks.colon; lines = blocks.lines; stopped = true }
blocks_after Close line blocks = record { colon = blocks.colon; lines = drop 1 blocks.lines; stopped = blocks.stopped }
blocks_after _ line blocks = blocks

-- after spans
abbrev pub blocks_behind : Blocks → List Span → Blocks
blocks_behind blocks [] = blocks
blocks_behind blocks (span ∷ spans) = blocks_behind (blocks_after span.kind span.line blocks) spans

-- the ends of so many blocks
abbrev pub ends : ℕ → List Item
ends zero = []
ends (suc depth) = Closes ∷ ends depth

-- the last of these lines
abbrev pub outermost : ℕ → List ℕ → ℕ
outermost line [] = line
outermost line (next ∷ lines) = outermost next lines

-- what a defect tells where braces are missing
abbrev pub missing : List ℕ
missing = codes "missing }"

-- at the end of a text that was read whole it's told, with the line of the outermost recipe whose block is open
abbrev pub missed : List ℕ → Bool → List Item
missed [] stopped = []
missed (line ∷ lines) true = []
missed (line ∷ lines) false = States (Defect (outermost line lines) missing) ∷ []

-- the open blocks end, and then it's told
abbrev pub closings : ℕ → Blocks → List Item
closings depth blocks = ends depth ++ missed blocks.lines blocks.stopped
