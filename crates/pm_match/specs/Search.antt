-- What a search is for.
use Rattle.std.specs.Prelude.{◌≡◌, Bool, false, Some, slice_get, IfSome, ℕ, ◌≤◌, Box}
use Rattle.std.specs.declared.alloc.Global.{Global}
use Rattle.pm_regex.specs.Re.{Re}
use Rattle.pm_match.specs.declared.step.Step.TheVariants.{Stop}
use Rattle.pm_match.specs.declared.build.Program.{Program}
use Rattle.pm_match.specs.declared.search.Search.{Search}
use Rattle.pm_match.specs.declared.marks.Marks.{Marks}
use Rattle.pm_match.specs.Automaton.{Built}
use Rattle.pm_match.specs.Automata.{AreWhole, Fits}
use Rattle.pm_match.specs.Cache.{AreReady}
use Rattle.pm_match.specs.Checkpoints.{HasRoom}
use Rattle.pm_match.specs.Anywhere.{IsAnywhere}

-- the automaton stands for the expression
pub record IsProgram (g : Program) (e : Re) (fold : Bool) : Type 0 where
  pub stop : slice_get g.steps.items g.exit ≡ Some Stop
  pub built : Built fold g.steps.items e g.entry g.exit

-- the automata stand for l and r, and there is room to search by them
pub record Runs (g : Search) (l r : Re) (fold : Bool) : Type 0 where
  pub whole : AreWhole g.automata
  pub room : Fits g.automata g.room
  pub marks : IfSome g.marks (λ m. HasRoom g.automata.left.steps.items g.automata.left.entry g.automata.left.exit m.value)
  pub cache : IfSome g.cache (λ c. AreReady false g.automata.left.steps.items g.automata.left.exit c.value)
  pub anywhere : IfSome g.anywhere (λ a. IsAnywhere g.automata.left a.value)
  pub left : IsProgram g.automata.left l fold
  pub right : IsProgram g.automata.right r fold

-- there is room to count by marks in an area of this length
abbrev pub IsReserved : Search → ℕ → Type 0
IsReserved g size = (m : Box Marks Global) × (g.marks ≡ Some m) × (size ≤ m.value.reach)
