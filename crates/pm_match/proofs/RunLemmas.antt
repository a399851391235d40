-- Two runs whose states are the same at a place have the same states at the next place, if the bytes there and what is after
-- them are the same.
use Rattle.std.proofs.Common.{◌≡◌, ◌⊎◌, ℕ, zero, suc, ◌+◌, ◌-◌, ◌≤◌, ◌<◌, ◌==◌, if◌then◌else◌, ◌||◌, Bool, true, false, List, [], ◌∷◌, Option, Some, length, set, refl, sym, ◌∙◌, ap, subst, inl, inr, ⊎_elim, arith}
use Rattle.std.specs.Prelude.{slice_get, slice_index, ◌↔◌}
use Rattle.std.proofs.lemmas.Option.{slice_get-get_or, slice_get_within}
use Rattle.pm_regex.specs.declared.op.Atom.{Atom}
use Rattle.pm_regex.specs.declared.op.Atom.TheVariants.{Byte, Any, LineStart, LineEnd, WordStart, WordEnd, AreaStart, AreaEnd}
use Rattle.pm_match.specs.declared.step.Test.{Test}
use Rattle.pm_match.specs.declared.step.Test.TheVariants as test
use Rattle.pm_match.specs.declared.step.Step.{Step}
use Rattle.pm_match.specs.declared.step.Step.TheVariants.{Stop, Go, Fork, Take, Range}
use Rattle.pm_match.specs.declared.cache.States.{States}
use Rattle.pm_regex.specs.Matching.{atom_passes}
use Rattle.pm_match.specs.Automaton.{StepEdge, Edge, passes}
use Rattle.pm_match.specs.Backward.{Holds}
use Rattle.pm_match.specs.declared.labels.Label.{Label}
use Rattle.pm_match.specs.Labels.{Below}
use Rattle.pm_match.specs.Finding.{Reach}
use Rattle.pm_match.specs.Cache.{context}
use Rattle.pm_match.specs.Forward.{IsReachedFrom, AreRunLabels, IsRunSet, IsByteBefore, Follows}
use Rattle.pm_match.specs.Begins.{IsBegin, AreBegins}
use Rattle.pm_match.proofs.FindLemmas.{edge_place, reach_after}
use Rattle.pm_match.proofs.ForwardLemmas.{leads_more}
use Rattle.pm_match.proofs.CacheLemmas.{passes_alike, put_get, set_reads, some_same}

module _ (x y : List ℕ) (i j : ℕ) (same : (t : Test) → passes t x i ≡ passes t y j) (p : List Step) where
  stay : (s : Step) (r : ℕ) → StepEdge p s x i r i → StepEdge p s y j r j
  stay Stop r e = absurd e
  stay (Go t) r e = (e.0, refl)
  stay (Fork t u) r e = (e.0, refl)
  stay (Range f l) r e = absurd e
  stay (Take t u) r e = (e.0, elim e.1 [ inl h ↦ inl (sym (same t) ∙ h.0, refl) | inr h ↦ absurd (omega (arith, h.3)) ])

  stay_edge : (q r : ℕ) → Edge p x q i r i → Edge p y q j r j
  stay_edge q r e = record { step = e.step; is = e.is; edge = stay e.step r e.edge }

module _ (x y : List ℕ) (i j b : ℕ) (here : slice_get x i ≡ Some b) (there : slice_get y j ≡ Some b) (p : List Step) where
  same_byte : (k : ℕ) → slice_get x i ≡ Some k → slice_get y j ≡ Some k
  same_byte k is = let e : Some b ≡ Some k = sym here ∙ is in there ∙ e

  cross : (s : Step) (r : ℕ) → StepEdge p s x i r (i + 1) → StepEdge p s y j r (j + 1)
  cross Stop r e = absurd e
  cross (Go t) r e = absurd (omega (arith, e.1))
  cross (Fork t u) r e = absurd (omega (arith, e.1))
  cross (Range f l) r e = absurd e
  cross (Take t u) r e = (e.0, elim e.1 [ inl h ↦ absurd (omega (arith, h.1)) | inr h ↦ inr (h.0, same_byte h.0 h.1, h.2, refl) ])

  pub cross_edge : (q r : ℕ) → Edge p x q i r (i + 1) → Edge p y q j r (j + 1)
  cross_edge q r e = record { step = e.step; is = e.is; edge = cross e.step r e.edge }

-- what is after a byte, by the byte
line_of : (x : List ℕ) (i b : ℕ) → slice_get x i ≡ Some b → ((i + 1 == 0) || (slice_index x (i + 1 - 1) == 10)) ≡ (b == 10)
line_of x i b is =
    let none : (i + 1 == 0) ≡ false = grind arith in
    let back : i + 1 - 1 ≡ i = omega arith in
    let e : Some (slice_index x i) ≡ Some b = sym (slice_get-get_or x i 0 (slice_get_within x i b is)) ∙ is in
    let byte : slice_index x i ≡ b = cc in
    ap (λ k. (i + 1 == 0) || (slice_index x k == 10)) back ∙ (ap (λ k. (i + 1 == 0) || (k == 10)) byte ∙ ap (λ t. t || (b == 10)) none)

abbrev pub one_if : Bool → ℕ
one_if a = if a then 1 else 0

one_or_none : (a b : Bool) → one_if a ≡ one_if b → a ≡ b
one_or_none true true e = refl
one_or_none false false e = refl
one_or_none true false e = absurd (omega (arith, e))
one_or_none false true e = absurd (omega (arith, e))

module _ (x y : List ℕ) (i j b c : ℕ) (here : IsByteBefore x i b c) (there : IsByteBefore y j b c) where
  line : ((i + 1 == 0) || (slice_index x (i + 1 - 1) == 10)) ≡ ((j + 1 == 0) || (slice_index y (j + 1 - 1) == 10))
  line = line_of x i b here.0 ∙ sym (line_of y j b there.0)

  first : (i + 1 == 0) ≡ (j + 1 == 0)
  first =
      let one : (i + 1 == 0) ≡ false = grind arith in
      let other : (j + 1 == 0) ≡ false = grind arith in
      one ∙ sym other

  end : (i + 1 == length x) ≡ (j + 1 == length y)
  end = one_or_none (i + 1 == length x) (j + 1 == length y) (here.1 ∙ sym there.1)

  atom_same : (a : Atom) → atom_passes a x (i + 1) ≡ atom_passes a y (j + 1)
  atom_same (Byte k) = refl
  atom_same Any = refl
  atom_same LineStart = line
  atom_same LineEnd = end
  atom_same WordStart = first
  atom_same WordEnd = end
  atom_same AreaStart = first
  atom_same AreaEnd = end

  pub passes_after : (t : Test) → passes t x (i + 1) ≡ passes t y (j + 1)
  passes_after (test.One a fold) = atom_same a
  passes_after (test.Set negated fold low high) = refl

  module _ (p : List Step) (entry s t : ℕ) (low : s ≤ i) (over : (q : ℕ) → IsReachedFrom p x entry s q i → IsReachedFrom p y entry t q j) where
    pub step_same : (n q : ℕ) → Reach p x entry s n q (i + 1) → IsReachedFrom p y entry t q (j + 1)
    step_same zero q h = absurd (omega (arith, h.1, low))
    step_same (suc n) q h = ⊎_elim
        (λ same. leads_more p y entry t h.0 (j + 1) q (j + 1)
        (step_same n h.0 (subst (λ k. Reach p x entry s n h.0 k) (sym same) h.2))
        (stay_edge x y (i + 1) (j + 1) passes_after p h.0 q (subst (λ k. Edge p x h.0 k q (i + 1)) (sym same) h.3)))
        (λ later.
        let at : h.1 ≡ i = omega (arith, later) in
        leads_more p y entry t h.0 j q (j + 1)
        (over h.0 (record { count = n; reach = subst (λ k. Reach p x entry s n h.0 k) at h.2 }))
        (cross_edge x y i j b here.0 there.0 p h.0 q (subst (λ k. Edge p x h.0 k q (i + 1)) at h.3)))
        (edge_place p x h.0 h.1 q (i + 1) h.3)

pub follows : (p : List Step) (entry : ℕ) (area : List ℕ) (s i b c : ℕ) (set next : List Bool) → IsByteBefore area i b c →
    IsRunSet p area entry s i set → IsRunSet p area entry s (i + 1) next → Follows p entry b c set next
follows p entry area s i b c set next here was now = λ other t j there before. record {
  after = (let low = before.after in omega (arith, low));
  states = λ q. (
    (λ h. let out = (now.states q).0 h in
        step_same area other i j b c here there p entry s t was.after (λ r o. (before.states r).0 ((was.states r).1 o)) out.count q out.reach),
    (λ out. (now.states q).1 (step_same other area j i b c there here p entry t s before.after (λ r o. (was.states r).0 ((before.states r).1 o)) out.count q out.reach)),
  );
}

-- two runs that begin in the same context, not at the area's end
module _ (p : List Step) (entry : ℕ) (x y : List ℕ) (s t : ℕ) (passed : (test : Test) → passes test x s ≡ passes test y t) where
  begin_same : (n q : ℕ) → Reach p x entry s n q s → IsReachedFrom p y entry t q t
  begin_same zero q h = record { count = 0; reach = (h.0, refl) }
  begin_same (suc n) q h = ⊎_elim
      (λ same. leads_more p y entry t h.0 t q t
      (begin_same n h.0 (subst (λ k. Reach p x entry s n h.0 k) (sym same) h.2))
      (stay_edge x y s t passed p h.0 q (subst (λ k. Edge p x h.0 k q s) (sym same) h.3)))
      (λ later. absurd (let low = reach_after p x entry s n h.0 h.1 h.2 in omega (arith, later, low)))
      (edge_place p x h.0 h.1 q s h.3)

below_end : (area : List ℕ) (i : ℕ) → i < length area → (i == length area) ≡ false
below_end area i lt = grind (arith, lt)

pub begins_with : (p : List Step) (entry : ℕ) (area : List ℕ) (s c : ℕ) (set : List Bool) → s < length area → context area s ≡ c → IsRunSet p area entry s s set → IsBegin p entry c set
begins_with p entry area s c set lt is now = λ other t less at.
    let one = below_end area s lt in
    let two = below_end other t less in
    record {
      after = omega arith;
      states = λ q. (
        (λ h. let out = (now.states q).0 h in begin_same p entry area other s t (passes_alike area other s t (is ∙ sym at) (one ∙ sym two)) out.count q out.reach),
        (λ out. (now.states q).1 (begin_same p entry other area t s (passes_alike other area t s (at ∙ sym is) (two ∙ sym one)) out.count q out.reach)),
      );
    }

module _ (p : List Step) (entry count : ℕ) (sets : List States) where
  -- one context more
  pub begun : (begins : List ℕ) (c to : ℕ) → to < count → AreBegins p entry count sets begins →
      ((r : States) → slice_get sets to ≡ Some r → IsBegin p entry c r.set.items) → AreBegins p entry count sets (set begins c to)
  begun begins c to is_to old new = λ k t is lt. ⊎_elim
      (λ same. (
        subst (λ x. x < count) (sym same.1) is_to,
        λ r is_r. subst (λ x. IsBegin p entry x r.set.items) (sym same.0) (new r (subst (λ x. slice_get sets x ≡ Some r) same.1 is_r)),
      ))
      (λ other. old k t other lt)
      (put_get begins c k to t is)

  -- sets more
  pub begins_kept : (many : ℕ) (more : List States) (begins : List ℕ) → count ≤ many → ((v : ℕ) → v < count → slice_get more v ≡ slice_get sets v) →
      AreBegins p entry count sets begins → AreBegins p entry many more begins
  begins_kept many more begins le kept old = λ c t is lt.
      let h = old c t is lt in
      let is_to = h.0 in (
        omega (arith, is_to, le),
        λ r is_r. h.1 r (sym (kept t is_to) ∙ is_r),
      )

-- no set that runs begin with
pub no_begins : (p : List Step) (entry count : ℕ) (sets : List States) (begins : List ℕ) → ((k t : ℕ) → slice_get begins k ≡ Some t → t ≡ 65535) → AreBegins p entry count sets begins
no_begins p entry count sets begins none = λ c t is lt. let same = none c t is in absurd (omega (arith, same, lt))

set_other : (bs : List Bool) (q k : ℕ) (b : Bool) → k < q → slice_get (set bs q b) k ≡ slice_get bs k
set_other [] q k b lt = refl
set_other (x ∷ xs) zero k b lt = absurd (omega (arith, lt))
set_other (x ∷ xs) (suc q) zero b lt = refl
set_other (x ∷ xs) (suc q) (suc k) b lt = set_other xs q k b (omega (arith, lt))

-- one state more, after the others
pub one_state : (R : ℕ → Type 0) (at : ℕ) (bit : Bool) (bs : List Bool) → at < length bs → ((bit ≡ true) ↔ R at) → ((q : ℕ) → q < at → Holds bs q ↔ R q) →
    (q : ℕ) → q < at + 1 → Holds (set bs at bit) q ↔ R q
one_state R at bit bs room is old q lt =
    let choice : (q ≡ at) ⊎ (q < at) = grind (arith, lt) in
    ⊎_elim
    (λ here.
    let read : slice_get (set bs at bit) q ≡ Some bit = subst (λ j. slice_get (set bs at bit) j ≡ Some bit) (sym here) (set_reads bs at bit room) in (
      (λ h. subst R (sym here) (is.0 (some_same (sym read ∙ h)))),
      (λ r. read ∙ ap Some (is.1 (subst R here r))),
    ))
    (λ below.
    let kept = set_other bs at q bit below in
    let before = old q below in (
      (λ h. before.0 (sym kept ∙ h)),
      (λ r. kept ∙ before.1 r),
    ))
    choice

module _ (p : List Step) (area : List ℕ) (entry s i : ℕ) where
  -- the states that labels of a run have are the run's
  pub labels_set : (labels : List (Option Label)) (set : List Bool) → s ≤ i → AreRunLabels p area entry s i labels →
      ((q : ℕ) → Holds set q ↔ ((v : ℕ) × Below labels q v)) → IsRunSet p area entry s i set
  labels_set labels set low ahead exact = record {
    after = low;
    states = λ q. (
      (λ h. let b = (exact q).0 h in ahead.sound q b.0 b.1),
      (λ to. (exact q).1 (ahead.whole q to.count to.reach)),
    );
  }

  -- labels of the run's states are labels of the run
  pub set_labels : (set : List Bool) (labels : List (Option Label)) → IsRunSet p area entry s i set → ((q v : ℕ) → Below labels q v → Holds set q) →
      ((q : ℕ) → Holds set q → (v : ℕ) × Below labels q v) → AreRunLabels p area entry s i labels
  set_labels set labels was sound whole = record {
    sound = λ q v b. (was.states q).0 (sound q v b);
    whole = λ q n h. whole q ((was.states q).1 (record { count = n; reach = h }));
  }
