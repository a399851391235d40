-- An rcfile in progress, and those that wait, as the meaning sees them.
use Rattle.std.specs.Prelude.{ℕ, ◌+◌, ◌-◌, ◌*◌, ◌^◌, length, drop, List, [], ◌∷◌, ◌++◌, Option}
use Rattle.pm_recipe.specs.Tree.{Trees}
use Rattle.pm_code.specs.Flat.{Flat, flats_of}
use Rattle.pm_code.specs.Ahead.{first, others, lists_of}
use Rattle.pm_meaning.specs.Running.{Item, BlockEnd, FileEnd, ahead}
use Rattle.pm_run.specs.declared.frames.Open.{Open}
use Rattle.pm_run.specs.declared.frames.Frames.{Frames}
use Rattle.pm_run.specs.declared.frames.Waiting.{Waiting}

-- the end of a block
abbrev pub end_of : Open → Item
end_of block = BlockEnd block.saved block.lock

-- the statements up to the end of the innermost block, its end, those up to the end of the next, and so on, and then the rest
abbrev pub weave : List Trees → List Open → List Item → List Item
weave lists [] rest = ahead (first lists) rest
weave lists (block ∷ blocks) rest = ahead (first lists) (end_of block ∷ weave (others lists) blocks rest)

-- the code's steps
abbrev pub steps_of : Frames → List Flat
steps_of f = flats_of f.code.steps.items

-- what is left of the rcfiles that wait, the first one's name before it
abbrev pub outer_items : List Waiting → List Item
outer_items [] = []
outer_items (w ∷ ws) = FileEnd w.name ∷ weave (lists_of (drop w.place (flats_of w.code.steps.items))) w.blocks.items (outer_items ws)

-- what is left of the rcfile, and of those that wait
abbrev pub items_of : Frames → List Item
items_of f = weave (lists_of (drop f.place (steps_of f))) f.blocks.items (outer_items f.outer.items)

-- what the open blocks have for locks, the innermost first
abbrev pub block_locks : List Open → List (Option (List ℕ))
block_locks [] = []
block_locks (block ∷ blocks) = block.lock ∷ block_locks blocks

-- the same of the rcfiles that wait
abbrev pub outer_locks : List Waiting → List (Option (List ℕ))
outer_locks [] = []
outer_locks (w ∷ ws) = block_locks w.blocks.items ++ outer_locks ws

-- what all open blocks have for locks
abbrev pub all_locks : Frames → List (Option (List ℕ))
all_locks f = block_locks f.blocks.items ++ outer_locks f.outer.items

-- how many items are left at the most: two for each step, and one for each open block and each rcfile that waits
abbrev pub left_outside : List Waiting → ℕ
left_outside [] = 0
left_outside (w ∷ ws) = 1 + 2 * (length w.code.steps.items - w.place) + length w.blocks.items + left_outside ws

-- the same of the rcfile that is read and those that wait
abbrev pub left_in : Frames → ℕ
left_in f = 2 * (length f.code.steps.items - f.place) + length f.blocks.items + left_outside f.outer.items

-- the same once so many rcfiles were opened: each that may still be opened brings fewer than 2 ^ 66
abbrev pub left_over : ℕ → Frames → ℕ
left_over count f = (256 - count) * 2 ^ 66 + left_in f
