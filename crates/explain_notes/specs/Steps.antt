-- Which step of an rcfile's code is which recipe, by the pieces of the text.
use Rattle.std.specs.Prelude.{ℕ, nat_lt, List, [], ◌∷◌, ◌++◌, length, Option, Some, None, slice_get, if◌then◌else◌}
use Rattle.pm_recipe.specs.Colon.{has_junk}
use Rattle.pm_recipe.specs.Listed.{pieces_of}
use Rattle.pm_recipe.specs.Refusal.{most_length}
use Rattle.pm_recipe.specs.Spells.{Piece}
use Rattle.pm_recipe.specs.declared.fronts.Kind.{Kind}
use Rattle.pm_recipe.specs.declared.fronts.Kind.TheVariants.{Gap, Colon, Condition, Mailbox, Pipe, WriteOut, Capture, Forward, Open, TooDeep, Close, Assign, Unset, Skipped}
use Rattle.explain_notes.specs.RcLines.{Lines}
use Rattle.explain_notes.specs.declared.recipe.Line.{Line}

-- the line that a piece is
abbrev pub line_of : Piece → Line
line_of piece = record { number = piece.span.line; text = piece.bytes }

-- a condition comes before the others, a gap is passed over, and anything else ends them
abbrev pub conditions_before : Kind → Line → List Line → List Line
conditions_before Condition line lines = line ∷ lines
conditions_before Gap line lines = lines
conditions_before _ line lines = []

-- the lines of the conditions with which these pieces begin
abbrev pub conditions_in : List Piece → List Line
conditions_in [] = []
conditions_in (piece ∷ pieces) = conditions_before piece.span.kind (line_of piece) (conditions_in pieces)

-- what is logged of a colon line that isn't understood whole is a step before the recipe's
abbrev pub junk_made : Piece → List (Option Lines)
junk_made piece = if has_junk piece.span.text then None ∷ [] else []

-- the steps that a piece makes, before these pieces: its recipe is one, with the lines of it; and an assignment, an unsetting,
-- a line that isn't understood and the end of a block are one
abbrev pub steps_made : Kind → Piece → List Piece → List (Option Lines)
steps_made Colon piece behind = junk_made piece ++ Some (record { colon = line_of piece; conditions = conditions_in behind }) ∷ []
steps_made Close piece behind = None ∷ []
steps_made Assign piece behind = None ∷ []
steps_made Unset piece behind = None ∷ []
steps_made Skipped piece behind = None ∷ []
steps_made _ piece behind = []

-- the steps of pieces, in order
abbrev pub steps_of : List Piece → List (Option Lines)
steps_of [] = []
steps_of (piece ∷ pieces) = steps_made piece.span.kind piece pieces ++ steps_of pieces

-- the steps of an rcfile's text; one that is too long isn't read
abbrev pub lines_of : List ℕ → List (Option Lines)
lines_of text = if nat_lt most_length (length text) then [] else steps_of (pieces_of text)

-- one that may not be there
abbrev pub flat : {A : Type 0} → Option (Option A) → Option A
flat None = None
flat (Some one) = one

-- the lines of the recipe whose step stands at a place
abbrev pub recipe_at : ℕ → List (Option Lines) → Option Lines
recipe_at place steps = flat (slice_get steps place)
