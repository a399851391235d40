-- An expression as a tree.
use Rattle.std.specs.Prelude.{ℕ, Bool, List, Option}
use Rattle.pm_regex.specs.declared.op.Atom.{Atom}
use Rattle.pm_regex.specs.declared.op.Times.{Times}

-- nothing, an atom, a bracket expression, two one after the other, one of two, and a repeat
pub data Re : Type 0 where
  nothing : Re
  one : Atom → Re
  -- a bracket expression: whether it begins with `^`, and its ranges from a first to a last byte
  set : Bool → List (ℕ × ℕ) → Re
  seq : Re → Re → Re
  either : Re → Re → Re
  times : Times → Re → Re

-- an expression, and before it what stands left of the cut
pub record Whole : Type 0 where
  pub left : Option Re
  pub right : Re
