-- Weights by a variable that has one number, as docs/MOVING.md, "Recipes and conditions", has them.
use Rattle.std.specs.Prelude.{ℕ, ◌-◌, Bool, true, false, not, ◌||◌, ◌&&◌, List, [], ◌∷◌, drop, length, nat_eq, nat_le, codes, if◌then◌else◌}
use Rattle.std.specs.List.{starts_with, list_all}
use Rattle.std.specs.Str.{bytes_eq}
use Rattle.pm_bytes.specs.Alphabet.{DOLLAR}
use Rattle.pm_bytes.specs.Letter.{is_digit_byte}
use Rattle.pm_recipe.specs.declared.fronts.Kind.{Kind}
use Rattle.pm_recipe.specs.declared.fronts.Kind.TheVariants as kind
use Rattle.pm_recipe.specs.declared.spans.Span.{Span}
use Rattle.check_moving.specs.Conditions.{begins_variable}
use Rattle.check_moving.specs.Text.{behind_name, without_quotes}
use Rattle.check_fix.specs.Edits.{edit_at}
use Rattle.check_fix.specs.Parts.{before}
use Rattle.check_fix.specs.declared.edits.Edit.{Edit}

-- from the first variable on
abbrev pub from_variable : List ℕ → List ℕ
from_variable [] = []
from_variable (byte ∷ rest) = if nat_eq byte DOLLAR && begins_variable rest then byte ∷ rest else from_variable rest

-- a brace before the name
abbrev pub is_braced : List ℕ → Bool
is_braced text = starts_with nat_eq text (codes "${")

-- behind `$` or `${`
abbrev pub name_on : List ℕ → List ℕ
name_on text = if is_braced text then drop 2 text else drop 1 text

-- behind the name
abbrev pub after_whole : List ℕ → List ℕ
after_whole text = behind_name (name_on text)

-- the name of the variable at the front
abbrev pub variable_name : List ℕ → List ℕ
variable_name text = before (name_on text) (after_whole text)

-- a brace after the name, where one is before it
abbrev pub is_closed : List ℕ → Bool
is_closed text = not (is_braced text) || starts_with nat_eq (after_whole text) (codes "}")

-- behind the variable
abbrev pub after_braces : List ℕ → List ℕ
after_braces text = if is_braced text then drop 1 (after_whole text) else after_whole text

-- an assignment
abbrev pub is_assignment : Kind → Bool
is_assignment kind.Assign = true
is_assignment _ = false

-- where a block begins
abbrev pub is_opening : Kind → Bool
is_opening kind.Open = true
is_opening _ = false

-- an assignment to this variable
abbrev pub is_value_of : List ℕ → Kind → List ℕ → Bool
is_value_of name kind other = is_assignment kind && bytes_eq other name

-- at this place, or where a block begins
abbrev pub is_past : ℕ → Kind → ℕ → Bool
is_past place kind first = is_opening kind || nat_le place first

-- from the first assignment to a variable on, if it is before a place and before all blocks
abbrev pub from_value : List ℕ → ℕ → List Span → List Span
from_value name place [] = []
from_value name place (span ∷ spans) =
    if is_past place span.kind span.first then []
    else if is_value_of name span.kind span.name.now then span ∷ spans
    else from_value name place spans

-- the text of the first span, or nothing
abbrev pub first_text : List Span → List ℕ
first_text [] = []
first_text (span ∷ spans) = span.text.now

-- the value that is given so
abbrev pub first_value : List ℕ → ℕ → List Span → List ℕ
first_value name place spans = first_text (from_value name place spans)

-- it is another variable, or it is given this value
abbrev pub keeps_value : List ℕ → List ℕ → Kind → List ℕ → List ℕ → Bool
keeps_value name value kind other text = not (bytes_eq other name) || (is_assignment kind && bytes_eq text value)

-- digits
abbrev pub is_number : List ℕ → Bool
is_number value = not (bytes_eq value (codes "")) && list_all is_digit_byte value

-- no span gives the variable another value
abbrev pub keep_value : List ℕ → List ℕ → List Span → Bool
keep_value name value spans = list_all (λ span. keeps_value name value span.kind span.name.now span.text.now) spans

-- the only value of a variable is this number
abbrev pub is_only : List ℕ → List ℕ → List Span → Bool
is_only name value spans = is_number (without_quotes value) && keep_value name value spans

-- this number in the place of the variable at the front of a rest of a text
abbrev pub value_edits : ℕ → List ℕ → List ℕ → List ℕ → List Edit
value_edits first text rest value =
    if is_closed rest then edit_at first text rest (length rest - length (after_braces rest)) (without_quotes value) else []

-- if it is the only value
abbrev pub only_edits : ℕ → List ℕ → List ℕ → List ℕ → List Span → List Edit
only_edits first text rest value all =
    if is_only (variable_name rest) value all then value_edits first text rest value else []

-- the variable that gives a weight, where all spans are these: `* $ $X^0` becomes `* $ 5^0`
abbrev pub number_edits : ℕ → List ℕ → List Span → List Edit
number_edits first text all =
    only_edits first text (from_variable text) (first_value (variable_name (from_variable text)) first all) all
