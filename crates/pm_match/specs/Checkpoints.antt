-- The sets of states that are kept at the start of each window, and how far a count is.
use Rattle.std.specs.Prelude.{◌≡◌, ℕ, min, ◌+◌, ◌*◌, ◌≤◌, ◌<◌, Bool, false, List, length, vec_len, Some, slice_get}
use Rattle.pm_regex.specs.Re.{Re}
use Rattle.pm_match.specs.declared.step.Step.{Step}
use Rattle.pm_regex.specs.declared.found.Found.{Found}
use Rattle.pm_match.specs.declared.cache.States.{States}
use Rattle.pm_match.specs.declared.marks.Marks.{Marks}
use Rattle.pm_match.specs.Backward.{IsExitSet}
use Rattle.pm_match.specs.Cache.{AreSets, AreReady}
use Rattle.pm_match.specs.Begins.{AreRuns}
use Rattle.pm_regex.specs.Found.{IsRun}

-- from window w on, the set at the start of each window that begins in the area is kept
abbrev pub AreCheckpoints : List Step → List ℕ → ℕ → ℕ → List States → Type 0
AreCheckpoints p area exit w checkpoints = (v : ℕ) (b : States) → w ≤ v → v * 65536 < length area → slice_get checkpoints v ≡ Some b → IsExitSet p area exit (v * 65536) b.set.items

-- there is room for sets of the automaton's states, for the marks of each window of an area of up to the length `reach`, and
-- for runs
pub record HasRoom (p : List Step) (entry exit : ℕ) (m : Marks) : Type 0 where
  pub set : vec_len m.set ≡ length p
  pub window : vec_len m.window ≡ min m.reach 65536
  pub checkpoints : AreSets (length p) m.checkpoints.items
  pub many : m.reach < vec_len m.checkpoints * 65536
  pub cache : AreReady false p exit m.cache
  pub forward : AreRuns p entry m.forward

-- after so many further matches from place `from` on the count is at place `to`: whatever matches follow there follow them
abbrev pub CountsTo : Bool → Re → List ℕ → ℕ → ℕ → ℕ → Type 0
CountsTo fold e area from count to = (rest : List Found) → IsRun fold e area to rest → (all : List Found) × IsRun fold e area from all × (length all ≡ count + length rest)
