-- What is wrong in short texts, as the manual has it.
use Rattle.std.specs.Prelude.{◌≡◌, ℕ, List, [], ◌∷◌, Option, Some, None, codes}
use Rattle.pm_recipe.specs.Weights.{condition_of}
use Rattle.pm_recipe.specs.Listed.{rc_of}
use Rattle.check_find.specs.declared.codes.Fault.{Fault}
use Rattle.check_find.specs.declared.codes.Fault.TheVariants.{Weight, Size}
use Rattle.check_find.specs.Columns.{column_after}
use Rattle.check_find.specs.Faults.{fault_of}
use Rattle.check_find.specs.Statements.{defect_lines}

-- what is wrong with the condition after a star
abbrev pub fault : List ℕ → Option Fault
fault text = fault_of (condition_of text)

-- conditions that aren't expressions
pub record OfConditions : Type 0 where
  -- a weight is at most 2147483647
  pub weight : fault (codes " 2147483648^1 x") ≡ Some Weight
  -- a size has no unit
  pub unit : fault (codes " < 10 KB") ≡ Some Size
  pub number : fault (codes " < 10000") ≡ None
  pub inverted : fault (codes " ! > 10") ≡ None
  -- with a weight it isn't inverted
  pub weighted : fault (codes " 5^1 ! > 10") ≡ Some Size
  -- a variable is expanded after a `$`, in the run
  pub variable : fault (codes " < $X") ≡ Some Size
  pub later : fault (codes " $ < $X") ≡ None
  -- a program's line is no expression
  pub program : fault (codes " ? test (") ≡ None

-- lines that are skipped
pub record OfLines : Type 0 where
  pub none : defect_lines (rc_of (codes "A=b\n")) ≡ []
  pub skipped : defect_lines (rc_of (codes "A=b\n, c\n")) ≡ 2 ∷ []
  -- a recipe without an action is told by its colon line
  pub wanting : defect_lines (rc_of (codes ":0\n* x\n\n:0\nb\n")) ≡ 1 ∷ []
  -- in a block, and then that its brace is missing
  pub block : defect_lines (rc_of (codes "\n:0\n{\n,\n")) ≡ 4 ∷ (2 ∷ [])

-- columns
pub record OfColumns : Type 0 where
  pub first : column_after [] None ≡ 1
  -- after a newline and a byte
  pub second : column_after (codes "ab\nc") (Some 2) ≡ 2
