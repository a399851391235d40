-- Where a match that begins at a place first ends.
use Rattle.std.specs.Prelude.{◌≡◌, ◌↔◌, ℕ, ◌+◌, ◌≤◌, ◌==◌, if◌then◌else◌, Bool, List, length, Option, Some, None, slice_get}
use Rattle.pm_regex.specs.Re.{Re}
use Rattle.pm_match.specs.declared.step.Step.{Step}
use Rattle.pm_match.specs.declared.labels.Label.{Label}
use Rattle.pm_regex.specs.Matching.{At}
use Rattle.pm_match.specs.Labels.{Below}
use Rattle.pm_match.specs.Finding.{Reach}
use Rattle.pm_match.specs.Backward.{Holds}

-- a run leads from the entry at place s to state q at place i
pub record IsReachedFrom (p : List Step) (area : List ℕ) (entry s q i : ℕ) : Type 0 where
  pub count : ℕ
  pub reach : Reach p area entry s count q i

-- the states with a label at place i are exactly those to which a run leads from the entry at place s, and the label is of that start
pub record AreRunLabels (p : List Step) (area : List ℕ) (entry s i : ℕ) (labels : List (Option Label)) : Type 0 where
  pub sound : (q v : ℕ) → Below labels q v → IsReachedFrom p area entry s q i
  pub whole : (q n : ℕ) → Reach p area entry s n q i → (v : ℕ) × Below labels q v

-- the set has exactly the states to which a run leads from the entry at place s, which isn't after place i
pub record IsRunSet (p : List Step) (area : List ℕ) (entry s i : ℕ) (set : List Bool) : Type 0 where
  pub after : s ≤ i
  pub states : (q : ℕ) → Holds set q ↔ IsReachedFrom p area entry s q i

-- whether the place after place i is the area's end (1), or not (0)
abbrev pub end_context : List ℕ → ℕ → ℕ
end_context area i = if i + 1 == length area then 1 else 0

-- byte b is at place i, and the area's end is after it where c is 1
abbrev pub IsByteBefore : List ℕ → ℕ → ℕ → ℕ → Type 0
IsByteBefore area i b c = (slice_get area i ≡ Some b) × (end_context area i ≡ c)

-- wherever byte b is in context c and `set` has the states of a run there, `next` has those of the run at the place after it
abbrev pub Follows : List Step → ℕ → ℕ → ℕ → List Bool → List Bool → Type 0
Follows p entry b c set next = (area : List ℕ) (s i : ℕ) → IsByteBefore area i b c → IsRunSet p area entry s i set → IsRunSet p area entry s (i + 1) next

-- the least end of a match that begins at place s, if there is one
abbrev pub IsLeastEnd : Bool → Re → List ℕ → ℕ → Option ℕ → Type 0
IsLeastEnd fold e area s None = (j : ℕ) → j ≤ length area → At fold e area s j → ⊥
IsLeastEnd fold e area s (Some j) = (j ≤ length area) × At fold e area s j × ((k : ℕ) → At fold e area s k → j ≤ k)
