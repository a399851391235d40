-- Counts of conditions, as docs/MOVING.md, "Recipes and conditions", has them.
use Rattle.std.specs.Prelude.{ℕ, ◌-◌, Bool, true, not, ◌&&◌, List, [], ◌∷◌, ◌++◌, drop, nat_eq, nat_le, codes, if◌then◌else◌}
use Rattle.std.specs.List.{starts_with}
use Rattle.std.specs.Str.{bytes_eq}
use Rattle.pm_recipe.specs.declared.spans.Span.{Span}
use Rattle.check_fix.specs.Braces.{is_skipped}
use Rattle.check_fix.specs.Edits.{edit_at}
use Rattle.check_fix.specs.Values.{is_gap}
use Rattle.check_fix.specs.declared.edits.Edit.{Edit}

-- a digit from 1 to 9, as a number; 0 of any other byte
abbrev pub digit : ℕ → ℕ
digit byte = if nat_le 49 byte && nat_le byte 57 then byte - 48 else 0

-- the number that a text begins with, if no other digit follows
abbrev pub one_digit : List ℕ → ℕ
one_digit [] = 0
one_digit (byte ∷ []) = digit byte
one_digit (byte ∷ (other ∷ rest)) = if nat_le 48 other && nat_le other 57 then 0 else digit byte

-- how many conditions a colon line counts: that of a colon alone is one
abbrev pub counted : List ℕ → ℕ
counted text =
    if bytes_eq text (codes ":") then 1 else if starts_with nat_eq text (codes ":") then one_digit (drop 1 text) else 0

-- no comment, no colon line, and no condition with a star
abbrev pub is_bare : List ℕ → Bool
is_bare text = not (starts_with nat_eq text (codes ":")) && not (starts_with nat_eq text (codes "*"))

-- a line that isn't understood, as a condition without a star is none here
abbrev pub is_condition : Span → Bool
is_condition span = is_skipped span.kind && is_bare span.bytes.now

-- so many of them follow
abbrev pub follow : ℕ → List Span → Bool
follow count [] = nat_eq count 0
follow count (span ∷ spans) =
    if nat_eq count 0 then true
    else if is_gap span.kind then follow count spans
    else is_condition span && follow (count - 1) spans

-- a star before each of so many
abbrev pub star_edits : ℕ → List Span → List Edit
star_edits count [] = []
star_edits count (span ∷ spans) =
    if nat_eq count 0 then []
    else if is_gap span.kind then star_edits count spans
    else edit_at span.first span.bytes.now span.bytes.now 0 (codes "* ") ++ star_edits (count - 1) spans

-- the bytes of a colon line up to its count
abbrev pub count_length : List ℕ → ℕ
count_length text = if bytes_eq text (codes ":") then 1 else 2

-- no count
abbrev pub zero_edits : ℕ → List ℕ → List Edit
zero_edits first text = edit_at first text text (count_length text) (codes ":0")

-- a count, and its conditions
abbrev pub numbered_edits : ℕ → Span → List Span → List Edit
numbered_edits count span spans =
    if not (nat_eq count 0) && follow count spans then zero_edits span.first span.bytes.now ++ star_edits count spans else []

-- `:2:`, and two lines: `:0:`, and a star before each of them
abbrev pub count_edits : Span → List Span → List Edit
count_edits span spans = numbered_edits (counted span.bytes.now) span spans
