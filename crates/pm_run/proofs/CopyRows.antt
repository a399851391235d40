-- The copy that is made for the block of a short rcfile.
use Rattle.std.proofs.Common.{◌≡◌, ◌∙◌, true, List, [], ◌∷◌, None, refl, ap}
use Rattle.std.specs.Prelude.{codes, map}
use Rattle.pm_recipe.specs.Listed.{rc_of}
use Rattle.pm_recipe.specs.Tree.{Assign, Recipe, Mailbox}
use Rattle.pm_code.specs.Flat.{Flat, Does, Enters, Leaves, written}
use Rattle.pm_meaning.specs.Delivering.{no_flags}
use Rattle.pm_meaning.specs.declared.chain.Chain.{Chain}
use Rattle.pm_run.specs.Copies.{unlocked_block, unlocked_frame, copied_frames}
use Rattle.pm_run.specs.Frames.{steps_of}
use Rattle.pm_run.specs.Nested.{Frame, frames_in, name_first, outer_frames}
use Rattle.pm_run.specs.declared.frames.Open.{Open}
use Rattle.pm_run.specs.declared.frames.Waiting.{Waiting}
use Rattle.pm_run.specs.declared.frames.Frames.{Frames}

-- a block for a copy, and a recipe after it
abbrev short_code : List Flat
short_code =
    Enters (record { flags = record no_flags { copy = true }; lock = None; conditions = [] }) 2
    ∷ Does (Assign (codes "X") (codes "1"))
    ∷ Leaves 0
    ∷ Does (Recipe (record { flags = no_flags; lock = None; conditions = [] }) (Mailbox (codes "mbox$X")))
    ∷ []

code_row : written 0 (rc_of (codes ":0 c\n{ X=1 }\n:0\nmbox$X\n")) ≡ short_code
code_row = refl

-- so many steps, blocks and waiting rcfiles of a copy that stands at the block's first statement
abbrev copy_at_block : Chain → List Flat → List Open → List Waiting → List Frame
copy_at_block chain steps blocks outer =
    record { steps = steps; place = 1; blocks = record { enter = 0; saved = chain; lock = None } ∷ map unlocked_block blocks; back = name_first outer } ∷ map unlocked_frame (outer_frames outer)

-- the copy's only rcfile stands in the block at its first statement, without a lock, and none comes back after it
copy_row : (chain : Chain) (f : Frames) → steps_of f ≡ written 0 (rc_of (codes ":0 c\n{ X=1 }\n:0\nmbox$X\n")) → f.blocks.items ≡ [] → f.outer.items ≡ []
    → copied_frames 1 chain (frames_in f) ≡ record { steps = short_code; place = 1; blocks = record { enter = 0; saved = chain; lock = None } ∷ []; back = None } ∷ []
copy_row chain f code blocks outer =
    ap (λ s. copy_at_block chain s f.blocks.items f.outer.items) (code ∙ code_row) ∙ ap (λ b. copy_at_block chain short_code b f.outer.items) blocks ∙ ap (copy_at_block chain short_code []) outer
