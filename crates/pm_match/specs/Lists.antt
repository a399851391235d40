-- Sets of states as lists, and which of them is next to which.
use Rattle.std.specs.Prelude.{◌≡◌, ◌↔◌, ℕ, ◌+◌, ◌*◌, ◌<◌, ◌≤◌, Bool, false, List, Some, length, slice_get, vec_len}
use Rattle.pm_match.specs.declared.step.Step.{Step}
use Rattle.pm_match.specs.declared.sets.Span.{Span}
use Rattle.pm_match.specs.declared.sets.Sets.{Sets}
use Rattle.pm_match.specs.declared.labels.Labels.{Labels}
use Rattle.pm_match.specs.Automaton.{Edge}
use Rattle.pm_match.specs.Forward.{IsReachedFrom}

-- the state is one of these
abbrev pub IsIn : List ℕ → ℕ → Type 0
IsIn states q = (k : ℕ) × (slice_get states k ≡ Some q)

-- the state is one of those that are listed in the span
abbrev pub Has : List ℕ → Span → ℕ → Type 0
Has states s q = (k : ℕ) × (s.start ≤ k) × (k < s.end) × (slice_get states k ≡ Some q)

-- there are few spans, each in the list
pub record AreBounded (spans : List Span) (states : List ℕ) : Type 0 where
  pub few : length spans ≤ 512
  pub ordered : (v : ℕ) (s : Span) → slice_get spans v ≡ Some s → (s.start ≤ s.end) × (s.end ≤ length states)

-- number v is that of a set of exactly these states, with this flag
pub record IsSetOf (spans : List Span) (all states : List ℕ) (goes_on : Bool) (v : ℕ) : Type 0 where
  pub span : Span
  pub is : slice_get spans v ≡ Some span
  pub flag : span.goes_on ≡ goes_on
  pub same : (q : ℕ) → Has all span q ↔ IsIn states q

-- these are exactly the states to which a run leads from the entry at the area's front
pub record AreReached (p : List Step) (area : List ℕ) (entry i : ℕ) (In : ℕ → Type 0) : Type 0 where
  pub sound : (q : ℕ) → In q → IsReachedFrom p area entry 0 q i
  pub whole : (q : ℕ) → IsReachedFrom p area entry 0 q i → In q

-- none of these states before the entry goes on by the byte at place i
abbrev pub NoneGoesOn : List Step → List ℕ → ℕ → ℕ → (ℕ → Type 0) → Type 0
NoneGoesOn p area entry i In = (q r : ℕ) → In q → q < entry → Edge p area q i r (i + 1) → ⊥

-- wherever byte b is before the area's end and a run has the states of the first span, the run has those of the second at the
-- next place, and only where its flag is set one of the first before the entry goes on
abbrev pub IsLink : List Step → ℕ → ℕ → List ℕ → Span → Span → Type 0
IsLink p entry b states s r = (area : List ℕ) (i : ℕ) → slice_get area i ≡ Some b → i + 1 < length area → AreReached p area entry i (Has states s) →
    AreReached p area entry (i + 1) (Has states r) × (r.goes_on ≡ false → NoneGoesOn p area entry i (Has states s))

-- no set has the exit, and each link leads from a set by a byte to the next one
pub record AreMet (p : List Step) (entry exit : ℕ) (spans : List Span) (states links : List ℕ) : Type 0 where
  pub open_sets : (v : ℕ) (s : Span) → slice_get spans v ≡ Some s → Has states s exit → ⊥
  pub linked : (at b t : ℕ) → b < 256 → slice_get links (at * 256 + b) ≡ Some t → t < 65535 → (at < length spans) × (t < length spans) ×
      ((s r : Span) → slice_get spans at ≡ Some s → slice_get spans t ≡ Some r → IsLink p entry b states s r)

-- set number v has exactly the states of the run at place i
abbrev pub IsAt : List Step → List ℕ → ℕ → ℕ → List Span → List ℕ → ℕ → Type 0
IsAt p area entry i spans states v = (s : Span) × (slice_get spans v ≡ Some s) × AreReached p area entry i (Has states s)

-- set number v has the states of the run at the place after i, and only where its flag is set one before the entry went on
-- from place i
pub record IsAfter (p : List Step) (area : List ℕ) (entry i : ℕ) (spans : List Span) (states : List ℕ) (v : ℕ) : Type 0 where
  pub at : IsAt p area entry (i + 1) spans states v
  pub none : (s : Span) → slice_get spans v ≡ Some s → s.goes_on ≡ false → NoneGoesOn p area entry i (λ q. IsReachedFrom p area entry 0 q i)

-- the sets are those of runs of this automaton, and there is room for the labels of a step
pub record AreReady (p : List Step) (entry exit : ℕ) (g : Sets) (labels : Labels) : Type 0 where
  pub bounded : AreBounded g.spans.items g.states.items
  pub met : AreMet p entry exit g.spans.items g.states.items g.links.items
  pub fits : vec_len labels.of ≡ length p
