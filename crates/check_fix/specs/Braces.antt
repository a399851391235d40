-- Values with a blank within `${`, as docs/MOVING.md, "Variables", has them.
use Rattle.std.specs.Prelude.{ℕ, Bool, true, false, not, ◌||◌, ◌&&◌, List, [], ◌∷◌, ◌++◌, drop, length, nat_eq, codes, if◌then◌else◌}
use Rattle.std.specs.List.{starts_with}
use Rattle.pm_recipe.specs.declared.fronts.Kind.{Kind}
use Rattle.pm_recipe.specs.declared.fronts.Kind.TheVariants as kind
use Rattle.pm_recipe.specs.declared.spans.Span.{Span}
use Rattle.check_moving.specs.Text.{has_part}
use Rattle.check_fix.specs.Edits.{edit_at}
use Rattle.check_fix.specs.Parts.{before, from_part}
use Rattle.check_fix.specs.Values.{is_blank_gap, is_gap}
use Rattle.check_fix.specs.declared.edits.Edit.{Edit}

-- a line that isn't understood
abbrev pub is_skipped : Kind → Bool
is_skipped kind.Skipped = true
is_skipped _ = false

-- from the quote and the brace on that end the value
abbrev pub from_close : List ℕ → List ℕ
from_close rest = from_part (codes "\"}") (drop 1 rest)

-- what is in the quotes
abbrev pub in_quotes : List ℕ → List ℕ
in_quotes rest = before (drop 1 rest) (from_close rest)

-- nothing, a blank or a newline comes next
abbrev pub ends_word : List ℕ → Bool
ends_word [] = true
ends_word (byte ∷ rest) = nat_eq byte 32 || nat_eq byte 9 || nat_eq byte 10

-- a text in double quotes, and then a closing brace
abbrev pub is_quoted : List ℕ → Bool
is_quoted rest =
    starts_with nat_eq rest (codes "\"") && starts_with nat_eq (from_close rest) (codes "\"}")
    && not (has_part (codes "\"") (in_quotes rest)) && ends_word (drop 2 (from_close rest))

-- a `${` at the front, without quotes
abbrev pub opens_brace : List ℕ → Bool
opens_brace value = starts_with nat_eq value (codes "${") && not (has_part (codes "\"") value) && not (has_part (codes "'") value)

-- no quote before the rest, and one behind its brace
abbrev pub close_edits : ℕ → List ℕ → List Edit
close_edits first rest = edit_at first rest rest 1 [] ++ edit_at first rest (from_close rest) 2 (codes "}\"")

-- and no blank
abbrev pub rest_edits : Span → Span → List Edit
rest_edits gap rest = edit_at gap.first gap.bytes.now gap.bytes.now (length gap.bytes.now) [] ++ close_edits rest.first rest.bytes.now

-- and one before the value
abbrev pub requoted : ℕ → List ℕ → List ℕ → Span → Span → List Edit
requoted first text value gap rest = edit_at first text value 0 (codes "\"") ++ rest_edits gap rest

-- the value ends at this gap, and the rest of it isn't understood
abbrev pub is_cut : List ℕ → Span → Span → Bool
is_cut value gap rest =
    opens_brace value && is_gap gap.kind && is_blank_gap gap.bytes.now && is_skipped rest.kind && is_quoted rest.bytes.now

-- `X=${Y:- "y z"}`: `X="${Y:-y z}"`
abbrev pub brace_edits : ℕ → List ℕ → List ℕ → List Span → List Edit
brace_edits first text value (gap ∷ (rest ∷ spans)) = if is_cut value gap rest then requoted first text value gap rest else []
brace_edits first text value _ = []
