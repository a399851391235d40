-- The sets of states that runs begin with.
use Rattle.std.specs.Prelude.{◌≡◌, ℕ, ◌<◌, Bool, true, List, Some, length, vec_len, slice_get}
use Rattle.pm_match.specs.declared.step.Step.{Step}
use Rattle.pm_match.specs.declared.cache.States.{States}
use Rattle.pm_match.specs.declared.cache.Cache.{Cache}
use Rattle.pm_match.specs.declared.forward.Forward.{Forward}
use Rattle.pm_match.specs.Cache.{context, AreReady}
use Rattle.pm_match.specs.Forward.{IsRunSet}

-- wherever a place before the area's end is in context c, the set is that of a run which begins there
abbrev pub IsBegin : List Step → ℕ → ℕ → List Bool → Type 0
IsBegin p entry c set = (area : List ℕ) (s : ℕ) → s < length area → context area s ≡ c → IsRunSet p area entry s s set

-- each of these numbers is that of a set in use with which runs begin in its context
abbrev pub AreBegins : List Step → ℕ → ℕ → List States → List ℕ → Type 0
AreBegins p entry count sets begins = (c t : ℕ) → slice_get begins c ≡ Some t → t < 65535 →
    (t < count) × ((r : States) → slice_get sets t ≡ Some r → IsBegin p entry c r.set.items)

-- the sets are those of runs of this automaton, and there is room for a set more and for a run by labels
pub record AreRuns (p : List Step) (entry : ℕ) (f : Forward) : Type 0 where
  pub cache : AreReady true p entry f.cache
  pub begins : AreBegins p entry f.cache.count f.cache.sets.items f.begins.items
  pub contexts : vec_len f.begins ≡ 3
  pub labels : vec_len f.labels.of ≡ length p
  pub next : vec_len f.next.of ≡ length p

-- set number v of those in use is that of the run from place s at place i
abbrev pub IsRunNumber : List Step → List ℕ → ℕ → ℕ → ℕ → Cache → ℕ → Type 0
IsRunNumber p area entry s i g v = (v < g.count) × ((r : States) → slice_get g.sets.items v ≡ Some r → IsRunSet p area entry s i r.set.items)
