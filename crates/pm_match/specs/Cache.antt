-- The sets of states that a pass over an area has met, and which of them is next to which.
use Rattle.std.specs.Prelude.{◌≡◌, ℕ, ◌+◌, ◌-◌, ◌*◌, ◌<◌, ◌≤◌, ◌==◌, if◌then◌else◌, Bool, true, false, List, Some, length, vec_len, slice_get, slice_index}
use Rattle.pm_match.specs.declared.step.Step.{Step}
use Rattle.pm_match.specs.declared.cache.States.{States}
use Rattle.pm_match.specs.declared.cache.Cache.{Cache}
use Rattle.pm_match.specs.Backward.{IsExitSet}
use Rattle.pm_match.specs.Forward.{Follows}

-- each of these sets is one of n states
abbrev pub AreSets : ℕ → List States → Type 0
AreSets n sets = (v : ℕ) (b : States) → slice_get sets v ≡ Some b → vec_len b.set ≡ n

-- what a place is after: nothing (2), a newline (1), or another byte (0)
abbrev pub context : List ℕ → ℕ → ℕ
context area i = if i == 0 then 2 else (if slice_index area (i - 1) == 10 then 1 else 0)

-- byte b is at place i, in context c
abbrev pub IsByteAt : List ℕ → ℕ → ℕ → ℕ → Type 0
IsByteAt area i b c = (slice_get area i ≡ Some b) × (context area i ≡ c)

-- wherever byte b is in context c and `next` is the exit set of the place after it, `set` is that of its place
abbrev pub Precedes : List Step → ℕ → ℕ → ℕ → List Bool → List Bool → Type 0
Precedes p exit b c next set = (area : List ℕ) (i : ℕ) → IsByteAt area i b c → IsExitSet p area exit (i + 1) next → IsExitSet p area exit i set

-- one set is next to another: in a pass back from the exit it precedes the other, and in one on from the entry it follows it
abbrev pub IsNext : Bool → List Step → ℕ → ℕ → ℕ → List Bool → List Bool → Type 0
IsNext false p exit b c set next = Precedes p exit b c set next
IsNext true p entry b c set next = Follows p entry b c set next

-- each link leads from a set in use to one in use that is next to it; the flag says whether the pass goes on from the entry
abbrev pub AreLinks : Bool → List Step → ℕ → ℕ → List States → List ℕ → Type 0
AreLinks on p end count sets links = (at b c t : ℕ) → b < 256 → c < 3 → slice_get links (at * 768 + (c * 256 + b)) ≡ Some t → t < 65535 →
    (at < count) × (t < count) × ((s r : States) → slice_get sets at ≡ Some s → slice_get sets t ≡ Some r → IsNext on p end b c s.set.items r.set.items)

-- the sets are of one size, and each has its links
pub record HasSets (g : Cache) : Type 0 where
  pub sets : AreSets (vec_len g.made) g.sets.items
  pub links : vec_len g.links ≡ vec_len g.sets * 768
  pub few : vec_len g.sets ≤ 128
  pub many : 2 ≤ vec_len g.sets
  pub used : g.count ≤ vec_len g.sets

-- the cache is of this automaton, and there is room for a set more
pub record AreReady (on : Bool) (p : List Step) (end : ℕ) (g : Cache) : Type 0 where
  pub sets : HasSets g
  pub spare : g.count < vec_len g.sets
  pub made : vec_len g.made ≡ length p
  pub links : AreLinks on p end g.count g.sets.items g.links.items

-- set number v of those in use is the exit set of place i
abbrev pub IsNumberOf : List Step → List ℕ → ℕ → ℕ → Cache → ℕ → Type 0
IsNumberOf p area exit i g v = (v < g.count) × ((s : States) → slice_get g.sets.items v ≡ Some s → IsExitSet p area exit i s.set.items)
