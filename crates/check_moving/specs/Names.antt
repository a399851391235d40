-- The variables whose last value begins with an anchor, by their names.
use Rattle.std.specs.Prelude.{ℕ, Bool, ◌&&◌, List, [], ◌∷◌, ◌++◌, length, nat_lt, if◌then◌else◌}
use Rattle.std.specs.Str.{bytes_eq}
use Rattle.pm_recipe.specs.declared.fronts.Kind.{Kind}
use Rattle.pm_recipe.specs.declared.fronts.Kind.TheVariants as kind
use Rattle.pm_recipe.specs.declared.spans.Span.{Span}
use Rattle.check_moving.specs.Anchors.{is_anchored}

-- the names without this one
abbrev pub others : List ℕ → List (List ℕ) → List (List ℕ)
others name [] = []
others name (other ∷ names) = if bytes_eq other name then others name names else other ∷ others name names

-- with this one, among at most 32
abbrev pub with_name : Bool → List ℕ → List (List ℕ) → List (List ℕ)
with_name anchored name names = if anchored && nat_lt (length names) 32 then names ++ (name ∷ []) else names

-- after a value
abbrev pub with_value : List ℕ → List ℕ → List (List ℕ) → List (List ℕ)
with_value name value names = with_name (is_anchored names value) name (others name names)

-- after a span of this kind
abbrev pub names_by : Kind → List ℕ → List ℕ → List (List ℕ) → List (List ℕ)
names_by kind.Assign name text names = with_value name text names
names_by kind.Unset name text names = others name names
names_by kind.Capture name text names = others name names
names_by _ name text names = names

-- after a span
abbrev pub names_after : Span → List (List ℕ) → List (List ℕ)
names_after span names = names_by span.kind span.name.now span.text.now names
