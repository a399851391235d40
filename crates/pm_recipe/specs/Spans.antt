-- An rcfile cut into spans, from the left.
use Rattle.std.specs.Prelude.{ℕ, ◌+◌, ◌-◌, List, [], ◌∷◌, if◌then◌else◌, nat_eq, false, true}
use Rattle.pm_bytes.specs.Alphabet.{NEWLINE}
use Rattle.pm_recipe.specs.Front.{Front}
use Rattle.pm_recipe.specs.declared.fronts.Situation.{Situation}
use Rattle.pm_recipe.specs.declared.fronts.Kind.{Kind}
use Rattle.pm_recipe.specs.declared.fronts.Kind.TheVariants.{Gap, Colon, Condition, Open, Close}

-- a span: its kind, the line that it begins on, its name and its text
pub record Span : Type 0 where
  pub kind : Kind
  pub line : ℕ
  pub name : List ℕ
  pub text : List ℕ

-- the span of a front on this line
abbrev pub span_of : Front → ℕ → Span
span_of front line = record { kind = front.kind; line = line; name = front.name; text = front.text }

-- the number of the line after a byte
abbrev pub line_past : ℕ → ℕ → ℕ
line_past byte line = if nat_eq byte NEWLINE then line + 1 else line

-- how many lines end in a text
abbrev pub newlines : List ℕ → ℕ
newlines [] = 0
newlines (byte ∷ bytes) = if nat_eq byte NEWLINE then newlines bytes + 1 else newlines bytes

-- a statement can follow, in so many blocks
abbrev pub in_statements : ℕ → Situation
in_statements depth = record { depth = depth; in_recipe = false }

-- the situation after a span of this kind
abbrev pub situation_after : Kind → Situation → Situation
situation_after Gap situation = situation
situation_after Condition situation = situation
situation_after Colon situation = record { depth = situation.depth; in_recipe = true }
situation_after Open situation = in_statements (situation.depth + 1)
situation_after Close situation = in_statements (situation.depth - 1)
situation_after _ situation = in_statements situation.depth

-- before the first byte
abbrev pub start : Situation
start = in_statements 0
