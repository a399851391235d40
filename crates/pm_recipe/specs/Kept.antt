-- How the code drops the joins of a text, byte by byte.
use Rattle.std.specs.Prelude.{ℕ, List, [], ◌∷◌, if◌then◌else◌, Bool, true, ◌||◌}
use Rattle.pm_bytes.specs.Letter.{is_blank_byte}
use Rattle.pm_recipe.specs.Places.{text_after}
use Rattle.pm_recipe.specs.declared.runs.Run.TheVariants as Run
use Rattle.pm_recipe.specs.Runs.{run_places}
use Rattle.pm_recipe.specs.Joins.{is_join, before_blanks}
use Rattle.pm_recipe.specs.declared.joins.Side.{Side}
use Rattle.pm_recipe.specs.declared.joins.Side.TheVariants.{Text, Newline, Indent}

-- whether a byte is dropped: one of a join, or a blank after one
abbrev pub is_dropped : Side → ℕ → List ℕ → Bool
is_dropped Text byte bytes = is_join byte bytes
is_dropped Newline byte bytes = true
is_dropped Indent byte bytes = is_blank_byte byte || is_join byte bytes

-- where the next byte stands
abbrev pub side_after : Bool → Side → ℕ → List ℕ → Side
side_after indents Text byte bytes = if is_join byte bytes then Newline else Text
side_after indents Newline byte bytes = if indents then Indent else Text
side_after indents Indent byte bytes = if is_blank_byte byte then Indent else if is_join byte bytes then Newline else Text

-- the bytes that are kept; the blanks after a join are dropped too, where they are an indent
abbrev pub kept : Bool → Side → List ℕ → List ℕ
kept indents side [] = []
kept indents side (byte ∷ bytes) =
    let rest = kept indents (side_after indents side byte bytes) bytes in
    if is_dropped side byte bytes then rest else byte ∷ rest

-- without the blanks at both ends
abbrev pub trimmed : List ℕ → List ℕ
trimmed text = before_blanks (text_after run_places Run.Blanks text)
