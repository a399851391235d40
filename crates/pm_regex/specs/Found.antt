-- Which match of an expression is found.
use Rattle.std.specs.Prelude.{◌≡◌, ℕ, ◌+◌, ◌<◌, ◌≤◌, ◌==◌, if◌then◌else◌, Bool, List, [], ◌∷◌, length, Option, Some, None}
use Rattle.pm_regex.specs.Re.{Re, Whole, seq}
use Rattle.pm_regex.specs.declared.found.Found.{Found}
use Rattle.pm_regex.specs.Matching.{At}

-- the expression matches from place s, which isn't before `from`, to place j
pub record IsPlainMatch (fold : Bool) (e : Re) (area : List ℕ) (from s j : ℕ) : Type 0 where
  pub after : from ≤ s
  pub start_in : s ≤ length area
  pub end_in : j ≤ length area
  pub at : At fold e area s j

-- the left part matches from place s, which isn't before `from`, to c, and the right part from c to j
pub record IsMatch (fold : Bool) (l r : Re) (area : List ℕ) (from s c j : ℕ) : Type 0 where
  pub after : from ≤ s
  pub start_in : s ≤ length area
  pub cut_in : c ≤ length area
  pub end_in : j ≤ length area
  pub left : At fold l area s c
  pub right : At fold r area c j

-- without a cut: of all matches the least start, and for it the least end
abbrev pub IsPlainFound : Bool → Re → List ℕ → ℕ → Option Found → Type 0
IsPlainFound fold e area from None = (s j : ℕ) → IsPlainMatch fold e area from s j → ⊥
IsPlainFound fold e area from (Some f) = (f.cut ≡ None) × IsPlainMatch fold e area from f.start f.end
    × ((s j : ℕ) → IsPlainMatch fold e area from s j → f.start ≤ s)
    × ((j : ℕ) → IsPlainMatch fold e area from f.start j → f.end ≤ j)

-- with a cut: of all matches the least start, for it the least cut, and for both the greatest end
abbrev pub IsCutFound : Bool → Re → Re → List ℕ → Option Found → Type 0
IsCutFound fold l r area None = (s c j : ℕ) → IsMatch fold l r area 0 s c j → ⊥
IsCutFound fold l r area (Some f) = (cut : ℕ) × (f.cut ≡ Some cut) × IsMatch fold l r area 0 f.start cut f.end
    × ((s c j : ℕ) → IsMatch fold l r area 0 s c j → f.start ≤ s)
    × ((c j : ℕ) → IsMatch fold l r area 0 f.start c j → cut ≤ c)
    × ((j : ℕ) → IsMatch fold l r area 0 f.start cut j → j ≤ f.end)

-- what is found, by whether the expression has a part on the left of `\/`
abbrev pub IsFoundOf : Bool → Option Re → Re → List ℕ → Option Found → Type 0
IsFoundOf fold None r area f = IsPlainFound fold r area 0 f
IsFoundOf fold (Some l) r area f = IsCutFound fold l r area f

-- what is found of the expression in the area
abbrev pub IsFound : Bool → Whole → List ℕ → Option Found → Type 0
IsFound fold e area f = IsFoundOf fold e.left e.right area f

-- the expression without its cut
abbrev pub without_cut : Option Re → Re → Re
without_cut None r = r
without_cut (Some l) r = seq l r

-- where the search goes on: at the end of a match, or one further where it is empty
abbrev pub place_after : ℕ → ℕ → ℕ
place_after start end = if start == end then end + 1 else end

-- the matches one after the other, from place `from` on: each has the least start, which is below the area's length, and the
-- least end
abbrev pub IsRun : Bool → Re → List ℕ → ℕ → List Found → Type 0
IsRun fold e area from [] = (s j : ℕ) → s < length area → IsPlainMatch fold e area from s j → ⊥
IsRun fold e area from (m ∷ ms) = (m.start < length area) × IsPlainFound fold e area from (Some m) × IsRun fold e area (place_after m.start m.end) ms

-- there are n matches one after the other
abbrev pub IsCount : Bool → Whole → List ℕ → ℕ → Type 0
IsCount fold e area n = (ms : List Found) × IsRun fold (without_cut e.left e.right) area 0 ms × (n ≡ length ms)
