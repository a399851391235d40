-- Two places with the same byte in the same context have the same exit sets if the places after them have.
use Rattle.std.proofs.Common.{◌≡◌, ◌⊎◌, ℕ, zero, suc, ◌+◌, ◌-◌, ◌*◌, ◌≤◌, ◌==◌, if◌then◌else◌, ◌||◌, ◌<◌, Bool, true, false, List, [], ◌∷◌, Some, length, set, refl, sym, ◌∙◌, ap, subst, inl, inr, ⊎_elim, arith}
use Rattle.std.specs.Prelude.{slice_get, slice_index, replicate, ◌↔◌}
use lib.Pointwise.{pointwise}
use Rattle.std.proofs.Math.Bool.{beq}
use Rattle.std.proofs.lemmas.Option.{slice_get_within}
use Rattle.pm_regex.specs.declared.op.Atom.{Atom}
use Rattle.pm_regex.specs.declared.op.Atom.TheVariants.{Byte, Any, LineStart, LineEnd, WordStart, WordEnd, AreaStart, AreaEnd}
use Rattle.pm_match.specs.declared.step.Test.{Test}
use Rattle.pm_match.specs.declared.step.Test.TheVariants as test
use Rattle.pm_match.specs.declared.step.Step.{Step}
use Rattle.pm_match.specs.declared.step.Step.TheVariants.{Stop, Go, Fork, Take, Range}
use Rattle.pm_regex.specs.Matching.{atom_passes}
use Rattle.pm_match.specs.Automaton.{StepEdge, Edge, Run, passes}
use Rattle.pm_match.specs.Backward.{ReachesExit, Holds, IsExitSet}
use Rattle.pm_match.specs.Cache.{context, IsByteAt, Precedes, IsNext, AreLinks}
use Rattle.pm_match.specs.declared.cache.States.{States}
use Rattle.pm_match.proofs.FindLemmas.{edge_place}
use Rattle.pm_match.proofs.BackwardLemmas.{longer_out}

-- a place in the area is not its end
pub not_end : (area : List ℕ) (i b : ℕ) → slice_get area i ≡ Some b → (i == length area) ≡ false
not_end area i b is = let lt = slice_get_within area i b is in grind (arith, lt)

-- by the context
abbrev choose : Bool → Bool → ℕ
choose first line = if first then 2 else (if line then 1 else 0)

same_first : (a b c d : Bool) → choose a b ≡ choose c d → a ≡ c
same_first true b true d e = refl
same_first false b false d e = refl
same_first true b false true e = absurd (omega (arith, e))
same_first true b false false e = absurd (omega (arith, e))
same_first false true true d e = absurd (omega (arith, e))
same_first false false true d e = absurd (omega (arith, e))

same_line : (a b c d : Bool) → choose a b ≡ choose c d → (a || b) ≡ (c || d)
same_line true b true d e = refl
same_line false true false true e = refl
same_line false false false false e = refl
same_line false true false false e = absurd (omega (arith, e))
same_line false false false true e = absurd (omega (arith, e))
same_line true b false true e = absurd (omega (arith, e))
same_line true b false false e = absurd (omega (arith, e))
same_line false true true d e = absurd (omega (arith, e))
same_line false false true d e = absurd (omega (arith, e))

module _ (x y : List ℕ) (i j : ℕ) (same_context : context x i ≡ context y j) (end : (i == length x) ≡ (j == length y)) where
  first : (i == 0) ≡ (j == 0)
  first = same_first (i == 0) (slice_index x (i - 1) == 10) (j == 0) (slice_index y (j - 1) == 10) same_context

  line : ((i == 0) || (slice_index x (i - 1) == 10)) ≡ ((j == 0) || (slice_index y (j - 1) == 10))
  line = same_line (i == 0) (slice_index x (i - 1) == 10) (j == 0) (slice_index y (j - 1) == 10) same_context

  atom_same : (a : Atom) → atom_passes a x i ≡ atom_passes a y j
  atom_same (Byte k) = refl
  atom_same Any = refl
  atom_same LineStart = line
  atom_same LineEnd = end
  atom_same WordStart = first
  atom_same WordEnd = end
  atom_same AreaStart = first
  atom_same AreaEnd = end

  pub passes_alike : (t : Test) → passes t x i ≡ passes t y j
  passes_alike (test.One a fold) = atom_same a
  passes_alike (test.Set negated fold low high) = refl

module _ (x y : List ℕ) (i j b c : ℕ) (here : IsByteAt x i b c) (there : IsByteAt y j b c) where
  passes_same : (t : Test) → passes t x i ≡ passes t y j
  passes_same t = passes_alike x y i j (here.1 ∙ sym there.1) (not_end x i b here.0 ∙ sym (not_end y j b there.0)) t

  same_byte : (k : ℕ) → slice_get x i ≡ Some k → slice_get y j ≡ Some k
  same_byte k is = let e : Some b ≡ Some k = sym here.0 ∙ is in there.0 ∙ e

  module _ (p : List Step) where
    stay : (s : Step) (r : ℕ) → StepEdge p s x i r i → StepEdge p s y j r j
    stay Stop r e = absurd e
    stay (Go t) r e = (e.0, refl)
    stay (Fork t u) r e = (e.0, refl)
    stay (Range f l) r e = absurd e
    stay (Take t u) r e = (e.0, elim e.1 [ inl h ↦ inl (sym (passes_same t) ∙ h.0, refl) | inr h ↦ absurd (omega (arith, h.3)) ])

    cross : (s : Step) (r : ℕ) → StepEdge p s x i r (i + 1) → StepEdge p s y j r (j + 1)
    cross Stop r e = absurd e
    cross (Go t) r e = absurd (omega (arith, e.1))
    cross (Fork t u) r e = absurd (omega (arith, e.1))
    cross (Range f l) r e = absurd e
    cross (Take t u) r e = (e.0, elim e.1 [ inl h ↦ absurd (omega (arith, h.1)) | inr h ↦ inr (h.0, same_byte h.0 h.1, h.2, refl) ])

    stay_edge : (q r : ℕ) → Edge p x q i r i → Edge p y q j r j
    stay_edge q r e = record { step = e.step; is = e.is; edge = stay e.step r e.edge }

    cross_edge : (q r : ℕ) → Edge p x q i r (i + 1) → Edge p y q j r (j + 1)
    cross_edge q r e = record { step = e.step; is = e.is; edge = cross e.step r e.edge }

    module _ (exit : ℕ) (over : (q : ℕ) → ReachesExit p x exit q (i + 1) → ReachesExit p y exit q (j + 1)) where
      pub run_same : (n k q : ℕ) → Run p x exit k n q i → ReachesExit p y exit q j
      run_same zero k q run = record { end = j; count = 0; run = (run.0, refl) }
      run_same (suc n) k q run = ⊎_elim
          (λ same. longer_out p y exit j q run.0 j
          (stay_edge q run.0 (subst (λ m. Edge p x q i run.0 m) same run.2))
          (run_same n k run.0 (subst (λ m. Run p x exit k n run.0 m) same run.3)))
          (λ later. longer_out p y exit j q run.0 (j + 1)
          (cross_edge q run.0 (subst (λ m. Edge p x q i run.0 m) later run.2))
          (over run.0 (record { end = k; count = n; run = subst (λ m. Run p x exit k n run.0 m) later run.3 })))
          (edge_place p x q i run.0 run.1 run.2)

pub precedes : (p : List Step) (exit : ℕ) (area : List ℕ) (i b c : ℕ) (next set : List Bool) → IsByteAt area i b c →
    IsExitSet p area exit (i + 1) next → IsExitSet p area exit i set → Precedes p exit b c next set
precedes p exit area i b c next set here after now = λ other j there behind q. (
  (λ h. let out = (now q).0 h in run_same area other i j b c here there p exit (λ r o. (behind r).0 ((after r).1 o)) out.count out.end q out.run),
  (λ out. (now q).1 (run_same other area j i b c there here p exit (λ r o. (after r).0 ((behind r).1 o)) out.count out.end q out.run)),
)

-- what is read where one item of a list was changed
pub put_get : {A : Type 0} (xs : List A) (i k : ℕ) (v t : A) → slice_get (set xs i v) k ≡ Some t → ((k ≡ i) × (t ≡ v)) ⊎ (slice_get xs k ≡ Some t)
put_get [] i k v t e = inr e
put_get (x ∷ xs) zero zero v t e = inl (refl, cc)
put_get (x ∷ xs) zero (suc k) v t e = inr e
put_get (x ∷ xs) (suc i) zero v t e = inr e
put_get (x ∷ xs) (suc i) (suc k) v t e = ⊎_elim (λ l. inl (ap suc l.0, l.1)) (λ r. inr r) (put_get xs i k v t e)

pub got : {A : Type 0} (xs : List A) (k : ℕ) → k < length xs → (x : A) × (slice_get xs k ≡ Some x)
got [] k lt = absurd (omega (arith, lt))
got (x ∷ xs) zero lt = (x, refl)
got (x ∷ xs) (suc k) lt = got xs k (omega (arith, lt))

module _ (on : Bool) (p : List Step) (exit count : ℕ) (sets : List States) where
  -- one link more
  pub linked : (links : List ℕ) (at b c to : ℕ) → at < count → to < count → b < 256 → c < 3 → AreLinks on p exit count sets links →
      ((s r : States) → slice_get sets at ≡ Some s → slice_get sets to ≡ Some r → IsNext on p exit b c s.set.items r.set.items) →
      AreLinks on p exit count sets (set links (at * 768 + (c * 256 + b)) to)
  linked links at b c to is_at is_to low_b low_c old new = λ k d e t low_d low_e is lt. ⊎_elim
      (λ same.
      let i = same.0 in
      let at_same : k ≡ at = omega (arith, i, low_b, low_c, low_d, low_e) in
      let b_same : b ≡ d = omega (arith, i, low_b, low_c, low_d, low_e) in
      let c_same : c ≡ e = omega (arith, i, low_b, low_c, low_d, low_e) in (
        omega (arith, at_same, is_at),
        subst (λ x. x < count) (sym same.1) is_to,
        λ s r is_s is_r. subst (λ x. IsNext on p exit x e s.set.items r.set.items) b_same
            (subst (λ y. IsNext on p exit b y s.set.items r.set.items) c_same
            (new s r (subst (λ x. slice_get sets x ≡ Some s) at_same is_s) (subst (λ x. slice_get sets x ≡ Some r) same.1 is_r))),
      ))
      (λ other. old k d e t low_d low_e other lt)
      (put_get links (at * 768 + (c * 256 + b)) (k * 768 + (e * 256 + d)) to t is)

  -- sets more
  pub links_kept : (many : ℕ) (more : List States) (links : List ℕ) → count ≤ many → ((v : ℕ) → v < count → slice_get more v ≡ slice_get sets v) →
      AreLinks on p exit count sets links → AreLinks on p exit many more links
  links_kept many more links le kept old = λ at b c t low_b low_c is lt.
      let h = old at b c t low_b low_c is lt in
      let is_at = h.0 in
      let is_to = h.1 in (
        omega (arith, is_at, le),
        omega (arith, is_to, le),
        λ s r is_s is_r. h.2 s r (sym (kept at is_at) ∙ is_s) (sym (kept t is_to) ∙ is_r),
      )

-- no link
pub no_links : (on : Bool) (p : List Step) (exit count : ℕ) (sets : List States) (links : List ℕ) → ((k t : ℕ) → slice_get links k ≡ Some t → t ≡ 65535) → AreLinks on p exit count sets links
no_links on p exit count sets links none = λ at b c t low_b low_c is lt.
    let same = none (at * 768 + (c * 256 + b)) t is in absurd (omega (arith, same, lt))

pub replicate_get : {A : Type 0} (n k : ℕ) (v t : A) → slice_get (replicate n v) k ≡ Some t → t ≡ v
replicate_get zero k v t is = cc
replicate_get (suc n) zero v t is = cc
replicate_get (suc n) (suc k) v t is = replicate_get n k v t is

-- two lists that are equal item by item
pub same_items : (xs ys : List Bool) → pointwise beq xs ys ≡ true → xs ≡ ys
same_items [] [] e = refl
same_items [] (y ∷ ys) e = cc
same_items (x ∷ xs) [] e = cc
same_items (true ∷ xs) (true ∷ ys) e = ap (λ t. true ∷ t) (same_items xs ys e)
same_items (false ∷ xs) (false ∷ ys) e = ap (λ t. false ∷ t) (same_items xs ys e)
same_items (true ∷ xs) (false ∷ ys) e = cc
same_items (false ∷ xs) (true ∷ ys) e = cc

pub set_reads : (bs : List Bool) (q : ℕ) (b : Bool) → q < length bs → slice_get (set bs q b) q ≡ Some b
set_reads [] q b lt = absurd (omega (arith, lt))
set_reads (x ∷ xs) zero b lt = refl
set_reads (x ∷ xs) (suc q) b lt = set_reads xs q b (omega (arith, lt))

set_above : (bs : List Bool) (q k : ℕ) (b : Bool) → q < k → slice_get (set bs q b) k ≡ slice_get bs k
set_above [] q k b lt = refl
set_above (x ∷ xs) q zero b lt = absurd (omega (arith, lt))
set_above (x ∷ xs) zero (suc k) b lt = refl
set_above (x ∷ xs) (suc q) (suc k) b lt = set_above xs q k b (omega (arith, lt))

pub some_same : {a b : Bool} → Some a ≡ Some b → a ≡ b
some_same e = cc

-- one mark more, before the others
pub one_mark : (R : ℕ → Type 0) (low place high : ℕ) (bit : Bool) (marks : List Bool) → low < place → place - 1 - low < length marks → ((bit ≡ true) ↔ R (place - 1)) →
    ((k : ℕ) → place ≤ low + k → low + k < high → Holds marks k ↔ R (low + k)) →
    (k : ℕ) → place - 1 ≤ low + k → low + k < high → Holds (set marks (place - 1 - low) bit) k ↔ R (low + k)
one_mark R low place high bit marks some room is old k from lt =
    let choice : (k ≡ place - 1 - low) ⊎ (place - 1 - low < k) = grind (arith, from, some) in
    ⊎_elim
    (λ here.
    let there : place - 1 ≡ low + k = omega (arith, here, some) in
    let read : slice_get (set marks (place - 1 - low) bit) k ≡ Some bit =
    subst (λ j. slice_get (set marks (place - 1 - low) bit) j ≡ Some bit) (sym here) (set_reads marks (place - 1 - low) bit room) in (
      (λ h. subst R there (is.0 (some_same (sym read ∙ h)))),
      (λ r. read ∙ ap Some (is.1 (subst R (sym there) r))),
    ))
    (λ above.
    let kept = set_above marks (place - 1 - low) k bit above in
    let before = old k (omega (arith, above, some)) lt in (
      (λ h. before.0 (sym kept ∙ h)),
      (λ r. kept ∙ before.1 r),
    ))
    choice
