-- What a program gets of the mail, by the colon line of its recipe.
use Rattle.std.specs.Prelude.{ℕ, Bool, true, false, not, ◌&&◌, List, [], ◌∷◌, nat_lt, if◌then◌else◌}
use Rattle.pm_recipe.specs.Colon.{flags_of, flags_part}
use Rattle.pm_recipe.specs.declared.fronts.Kind.{Kind}
use Rattle.pm_recipe.specs.declared.fronts.Kind.TheVariants as kind
use Rattle.pm_recipe.specs.declared.spans.Span.{Span}
use Rattle.pm_recipe.specs.declared.tree.Flags.{Flags}
use Rattle.check_fix.specs.Copies.{before_braces, is_colon}

-- the last colon line before this place, and this text without one
abbrev pub colon_before : ℕ → List ℕ → List Span → List ℕ
colon_before place text [] = text
colon_before place text (span ∷ spans) =
    if nat_lt span.first place then colon_before place (if is_colon span.kind then span.bytes.now else text) spans else text

-- a recipe's program
abbrev pub is_program : Kind → Bool
is_program kind.Pipe = true
is_program kind.Capture = true
is_program _ = false

-- the body is fed, and the header isn't
abbrev pub feeds_body : Flags → Bool
feeds_body flags = flags.feed_body && not flags.feed_head

-- the program of a recipe whose flags feed it the body alone
abbrev pub gets_body : Span → List Span → Bool
gets_body span all = is_program span.kind && feeds_body (flags_of (flags_part (before_braces (colon_before span.first [] all))))
