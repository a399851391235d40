-- The states from which the exit of the automaton can still be reached.
use Rattle.std.specs.Prelude.{◌≡◌, ◌↔◌, ℕ, ◌+◌, ◌<◌, ◌⊎◌, Bool, true, false, List, [], ◌∷◌, Some, slice_get}
use Rattle.pm_match.specs.declared.step.Step.{Step}
use Rattle.pm_match.specs.Automaton.{Edge, Run}

-- a run leads from state q at place i to the exit
pub record ReachesExit (p : List Step) (area : List ℕ) (exit q i : ℕ) : Type 0 where
  pub end : ℕ
  pub count : ℕ
  pub run : Run p area exit end count q i

-- the set has the state, or the place is marked
abbrev pub Holds : List Bool → ℕ → Type 0
Holds set q = slice_get set q ≡ Some true

-- from each state of the set at place i a run leads to the exit
abbrev pub AllReachExit : List Step → List ℕ → ℕ → ℕ → List Bool → Type 0
AllReachExit p area exit i set = (q : ℕ) → Holds set q → ReachesExit p area exit q i

-- the set has exactly the states from which at place i a run leads to the exit
abbrev pub IsExitSet : List Step → List ℕ → ℕ → ℕ → List Bool → Type 0
IsExitSet p area exit i set = (q : ℕ) → Holds set q ↔ ReachesExit p area exit q i

-- an edge leads from state q at place i into the set there, or by a byte into the set of the next place
pub record LeadsInto (p : List Step) (area : List ℕ) (i : ℕ) (set next : List Bool) (q : ℕ) : Type 0 where
  pub to : ℕ
  pub edge : (Edge p area q i to i × Holds set to) ⊎ (Edge p area q i to (i + 1) × Holds next to)

-- whatever leads into the sets is in the first
abbrev pub IsClosedBackward : List Step → List ℕ → ℕ → List Bool → List Bool → Type 0
IsClosedBackward p area i set next = (q : ℕ) → LeadsInto p area i set next q → Holds set q

-- how many states aren't in the set
abbrev pub missing : List Bool → ℕ
missing [] = 0
missing (true ∷ bs) = missing bs
missing (false ∷ bs) = missing bs + 1

-- the marks of the places from low to high are set exactly where a run begins that leads from the entry to the exit
abbrev pub AreMarks : List Step → ℕ → ℕ → List ℕ → ℕ → ℕ → List Bool → Type 0
AreMarks p entry exit area low high marks = (k : ℕ) → low + k < high → Holds marks k ↔ ReachesExit p area exit entry (low + k)
