-- Copies that a variable decides on, as docs/MOVING.md, "Recipes and conditions", has them.
use Rattle.std.specs.Prelude.{ℕ, ◌-◌, Bool, true, false, not, ◌||◌, ◌&&◌, List, [], ◌∷◌, ◌++◌, drop, length, nat_eq, codes, if◌then◌else◌}
use Rattle.std.specs.List.{starts_with, list_all}
use Rattle.pm_bytes.specs.Alphabet.{COLON}
use Rattle.pm_bytes.specs.Letter.{is_blank_byte, is_name_byte}
use Rattle.pm_recipe.specs.Colon.{flags_of, flags_part}
use Rattle.pm_recipe.specs.declared.fronts.Kind.{Kind}
use Rattle.pm_recipe.specs.declared.fronts.Kind.TheVariants as kind
use Rattle.pm_recipe.specs.declared.spans.Span.{Span}
use Rattle.pm_recipe.specs.declared.tree.Flags.{Flags}
use Rattle.check_moving.specs.Conditions.{begins_variable}
use Rattle.check_fix.specs.Edits.{edit_at}
use Rattle.check_fix.specs.Numbers.{after_whole, name_on, variable_name}
use Rattle.check_fix.specs.Parts.{before, from_part, is_some}
use Rattle.check_fix.specs.declared.edits.Edit.{Edit}

-- from the variable of a colon line on
abbrev pub from_braces : List ℕ → List ℕ
from_braces text = from_part (codes "${") text

-- what is before it
abbrev pub before_braces : List ℕ → List ℕ
before_braces text = before text (from_braces text)

-- a byte of flags
abbrev pub is_flag_byte : ℕ → Bool
is_flag_byte byte = is_blank_byte byte || is_name_byte byte

-- `:0` and flags, of a recipe that is neither a filter nor a copy without the variable
abbrev pub is_delivering : Flags → Bool
is_delivering flags = not flags.filter && not flags.copy

abbrev pub has_front : List ℕ → Bool
has_front front =
    starts_with nat_eq front (codes ":0") && list_all is_flag_byte (drop 2 front) && is_delivering (flags_of (flags_part front))

-- what follows the variable
abbrev pub after_copy : List ℕ → List ℕ
after_copy text = drop 4 (after_whole (from_braces text))

-- the flags end here
abbrev pub ends_flags : List ℕ → Bool
ends_flags [] = true
ends_flags (byte ∷ rest) = is_blank_byte byte || nat_eq byte COLON

-- a variable that gives the flag c if it has a value, and nothing otherwise
abbrev pub is_giving : List ℕ → Bool
is_giving rest = begins_variable (name_on rest) && starts_with nat_eq (after_whole rest) (codes ":+c}")

-- a colon line with such a variable: `:0 W ${CC:+c}:my.lock`
abbrev pub gives_copy : List ℕ → Bool
gives_copy text = has_front (before_braces text) && is_giving (from_braces text) && ends_flags (after_copy text)

-- the name of the variable
abbrev pub copy_name : List ℕ → List ℕ
copy_name text = variable_name (from_braces text)

-- an action that delivers
abbrev pub is_delivery : Kind → Bool
is_delivery kind.Mailbox = true
is_delivery kind.Pipe = true
is_delivery kind.Forward = true
is_delivery _ = false

-- where a recipe begins, and where a block ends
abbrev pub is_colon : Kind → Bool
is_colon kind.Colon = true
is_colon _ = false

abbrev pub is_closing : Kind → Bool
is_closing kind.Close = true
is_closing _ = false

-- a recipe that looks at whether the one before it was executed
abbrev pub looks_back : Flags → Bool
looks_back flags = flags.or_else || flags.on_error

-- the next recipe of the same block is such a one
abbrev pub is_looked_at : List Span → Bool
is_looked_at [] = false
is_looked_at (span ∷ spans) =
    if is_colon span.kind then looks_back (flags_of (flags_part (before_braces span.bytes.now)))
    else not (is_closing span.kind) && is_looked_at spans

-- something follows the action, and that isn't
abbrev pub can_stop : List Span → Bool
can_stop [] = false
can_stop (span ∷ spans) = not (is_looked_at (span ∷ spans))

-- a recipe of this colon line, with this action and these spans after it
abbrev pub is_copied : List ℕ → Kind → List Span → Bool
is_copied text action spans = gives_copy text && is_delivery action && can_stop spans

-- always a copy: `:0 W c:my.lock`
abbrev pub copy_edits : ℕ → List ℕ → Kind → List Span → List Edit
copy_edits first text action spans =
    if is_copied text action spans
    then edit_at first text (from_braces text) (length (from_braces text) - length (after_copy text)) (codes "c")
    else []

-- what can stand between a colon line and its action
abbrev pub is_between : Kind → Bool
is_between kind.Gap = true
is_between kind.Condition = true
is_between _ = false

-- the colon line whose conditions or action comes next, if one does, behind a span and that one before it
abbrev pub colon_after : Span → List ℕ → List ℕ
colon_after span text = if is_colon span.kind then span.bytes.now else if is_between span.kind then text else []

-- and a recipe that ends the delivery without the variable, in a block, so that the recipe succeeded with it, too
abbrev pub stop_text : List ℕ → List ℕ
stop_text name = (codes "\n:0 a\n{\n  :0\n  * ! " ++ name) ++ codes " ?? .\n  /dev/null\n}"

abbrev pub stop_at : List ℕ → List Span → List Edit
stop_at text [] = []
stop_at text (span ∷ spans) = edit_at span.first span.bytes.now span.bytes.now 0 (stop_text (copy_name text))

-- behind an action of this kind under this colon line
abbrev pub stop_under : List ℕ → Kind → List Span → List Edit
stop_under text action spans = if is_copied text action spans then stop_at text spans else []

-- behind the action of a span before these, under the colon line whose action comes there
abbrev pub stop_edits : Span → List Span → List ℕ → List Edit
stop_edits span spans colon = stop_under colon span.kind spans
