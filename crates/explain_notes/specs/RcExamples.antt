-- Short rcfiles, and the lines of their steps.
use Rattle.std.specs.Prelude.{◌≡◌, ℕ, List, [], ◌∷◌, Option, Some, None, codes}
use Rattle.explain_notes.specs.RcLines.{Lines}
use Rattle.explain_notes.specs.Steps.{lines_of}
use Rattle.explain_notes.specs.declared.recipe.Line.{Line}

-- a line with its number
abbrev pub line : ℕ → List ℕ → Line
line number text = record { number = number; text = text }

-- a recipe's lines
abbrev pub recipe : Line → List Line → Option Lines
recipe colon conditions = Some (record { colon = colon; conditions = conditions })

-- The steps of each kind of statement.
pub record OfSteps : Type 0 where
  pub none : lines_of [] ≡ []
  pub plain : lines_of (codes ":0:\n* a\n\n* < 9\nbox\n") ≡ recipe (line 1 (codes ":0:")) (line 2 (codes "* a") ∷ line 4 (codes "* < 9") ∷ []) ∷ []
  pub assigned : lines_of (codes "A=1\nB\n:0\nbox\n") ≡ None ∷ None ∷ recipe (line 3 (codes ":0")) [] ∷ []
  pub block : lines_of (codes ":0\n* a\n{\n:0\nx\n}\n:0 E\ny\n")
      ≡ recipe (line 1 (codes ":0")) (line 2 (codes "* a") ∷ []) ∷ recipe (line 4 (codes ":0")) [] ∷ None ∷ recipe (line 7 (codes ":0 E")) [] ∷ []
  pub junk : lines_of (codes ":0 z\nbox\n") ≡ None ∷ recipe (line 1 (codes ":0 z")) [] ∷ []
  pub skipped : lines_of (codes "?\n:0\nbox\n") ≡ None ∷ recipe (line 2 (codes ":0")) [] ∷ []
  pub no_action : lines_of (codes ":0\n* a\n:0\nbox\n") ≡ recipe (line 1 (codes ":0")) (line 2 (codes "* a") ∷ []) ∷ recipe (line 3 (codes ":0")) [] ∷ []
  pub joined : lines_of (codes ":0\n* a\\\n  b\nbox\n") ≡ recipe (line 1 (codes ":0")) (line 2 (codes "* a\\\n  b") ∷ []) ∷ []
