-- An automaton that reads any bytes before a match of another one.
use Rattle.std.specs.Prelude.{ℕ, ◌<◌, ◌≤◌, Bool, List, length}
use Rattle.pm_regex.specs.Re.{Re}
use Rattle.pm_regex.specs.Matching.{At}
use Rattle.pm_match.specs.declared.build.Program.{Program}
use Rattle.pm_match.specs.declared.anywhere.Anywhere.{Anywhere}
use Rattle.pm_match.specs.Labels.{InRange}
use Rattle.pm_match.specs.Automaton.{Built}
use Rattle.pm_match.specs.Finding.{Reach}
use Rattle.pm_match.specs.Forward.{IsReachedFrom}
use Rattle.pm_match.specs.Lists.{AreReady}

-- the second has the first within it, before its entry, and a run from the area's front leads to wherever one of the first
-- does
pub record Embeds (g a : Program) : Type 0 where
  pub joins : (area : List ℕ) (s n q i : ℕ) → s ≤ length area → Reach a.steps.items area g.entry s n q i → IsReachedFrom a.steps.items area a.entry 0 q i
  pub inner : (area : List ℕ) (s n q i : ℕ) → Reach a.steps.items area g.entry s n q i → q < a.entry
  pub ends : (e : Re) (fold : Bool) (area : List ℕ) (s j : ℕ) → Built fold g.steps.items e g.entry g.exit → At fold e area s j → IsReachedFrom a.steps.items area g.entry s a.exit j

-- no run of the first that began before this place ends in the area
abbrev pub NoneBefore : Program → Program → List ℕ → ℕ → Type 0
NoneBefore g a area base = (s j : ℕ) → j ≤ length area → IsReachedFrom a.steps.items area g.entry s a.exit j → base ≤ s

-- whatever the automaton names is in it
pub record IsSound (a : Program) : Type 0 where
  pub range : InRange a.steps.items
  pub entry : a.entry < length a.steps.items
  pub exit : a.exit < length a.steps.items

-- it reads any bytes before a match of the other, and there is room for its runs
pub record IsAnywhere (g : Program) (w : Anywhere) : Type 0 where
  pub embeds : Embeds g w.program
  pub sound : IsSound w.program
  pub ready : AreReady w.program.steps.items w.program.entry w.program.exit w.sets w.labels
