-- Assignments and names alone, as docs/MOVING.md, "Variables", has them. Each text is all of a span, with its first place.
use Rattle.std.specs.Prelude.{ℕ, Bool, true, false, not, ◌||◌, List, [], ◌∷◌, length, nat_eq, codes, if◌then◌else◌}
use Rattle.std.specs.Str.{bytes_eq}
use Rattle.pm_bytes.specs.Alphabet.{NEWLINE, HASH}
use Rattle.pm_bytes.specs.Letter.{is_blank_byte}
use Rattle.pm_recipe.specs.declared.fronts.Kind.{Kind}
use Rattle.pm_recipe.specs.declared.fronts.Kind.TheVariants as kind
use Rattle.pm_recipe.specs.declared.spans.Span.{Span}
use Rattle.check_moving.specs.Text.{has_part, without_quotes}
use Rattle.check_fix.specs.Edits.{edit_at}
use Rattle.check_fix.specs.declared.edits.Edit.{Edit}

-- a gap of these bytes is a newline or a comment
abbrev pub is_line_end : List ℕ → Bool
is_line_end [] = false
is_line_end (byte ∷ bytes) = nat_eq byte NEWLINE || nat_eq byte HASH

-- a gap of these bytes is a blank
abbrev pub is_blank_gap : List ℕ → Bool
is_blank_gap [] = false
is_blank_gap (byte ∷ bytes) = is_blank_byte byte

-- a span that is no statement
abbrev pub is_gap : Kind → Bool
is_gap kind.Gap = true
is_gap _ = false

-- nothing but blanks and a comment follows on the line
abbrev pub ends_line : List Span → Bool
ends_line [] = true
ends_line (span ∷ spans) =
    if not (is_gap span.kind) then false
    else if is_blank_gap span.bytes.now then ends_line spans
    else is_line_end span.bytes.now

-- `HOST` at the end of its line: `HOST=`
abbrev pub host_edits : ℕ → List ℕ → List Span → List Edit
host_edits first text spans = if ends_line spans then edit_at first text text (length text) (codes "HOST=") else []

-- a variable without an effect: taken out, unless a program gives its value
abbrev pub idle_edits : ℕ → List ℕ → List Edit
idle_edits first text = if has_part (codes "`") text then [] else edit_at first text text (length text) []

-- `yes`, `on` or `1`
abbrev pub is_yes : List ℕ → Bool
is_yes value = bytes_eq value (codes "yes") || bytes_eq value (codes "on") || bytes_eq value (codes "1")

-- `off` or `0`
abbrev pub is_no : List ℕ → Bool
is_no value = bytes_eq value (codes "off") || bytes_eq value (codes "0")

-- another value
abbrev pub value_edits : ℕ → List ℕ → List ℕ → List ℕ → List Edit
value_edits first text value new = edit_at first text value (length value) new

-- `LOGABSTRACT=yes`: `all`; `LOGABSTRACT=off`: `no`
abbrev pub log_edits : ℕ → List ℕ → List ℕ → List Edit
log_edits first text value =
    if is_yes (without_quotes value) then value_edits first text value (codes "all")
    else if is_no (without_quotes value) then value_edits first text value (codes "no")
    else []

-- `DELIVERED=on`: `yes`
abbrev pub delivered_edits : ℕ → List ℕ → List ℕ → List Edit
delivered_edits first text value = if is_yes (without_quotes value) then value_edits first text value (codes "yes") else []
