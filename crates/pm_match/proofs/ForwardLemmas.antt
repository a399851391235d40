-- Labels of one run from one place.
use Rattle.std.proofs.Common.{◌≡◌, ◌⊎◌, ℕ, zero, suc, ◌+◌, ◌<◌, ◌≤◌, Bool, List, Option, Some, None, length, refl, sym, subst, ⊎_elim, arith}
use Rattle.pm_regex.specs.Re.{Re}
use Rattle.pm_match.specs.declared.step.Step.{Step}
use Rattle.pm_match.specs.declared.labels.Label.{Label}
use Rattle.pm_match.specs.declared.build.Program.{Program}
use Rattle.pm_regex.specs.Matching.{At}
use Rattle.pm_match.specs.Automaton.{Edge}
use Rattle.pm_match.specs.Labels.{Below, Hops, here, hop, Crosses, IsClosed, IsEmpty}
use Rattle.pm_match.specs.Finding.{Reach}
use Rattle.pm_match.specs.Search.{IsProgram}
use Rattle.pm_match.specs.Backward.{Holds}
use Rattle.pm_match.specs.Lists.{AreReached}
use Rattle.pm_match.specs.Forward.{IsReachedFrom, AreRunLabels, IsRunSet, IsLeastEnd}
use Rattle.pm_match.proofs.FindLemmas.{edge_place, reach_after}
use Rattle.pm_match.proofs.BestLemmas.{at_of, reach_of}

module _ (p : List Step) (area : List ℕ) (entry s : ℕ) where
  pub leads_more : (q i r k : ℕ) → IsReachedFrom p area entry s q i → Edge p area q i r k → IsReachedFrom p area entry s r k
  leads_more q i r k h e = record { count = suc h.count; reach = (q, i, h.reach, e) }

  hops_lead : (i q r : ℕ) → Hops p area i q r → IsReachedFrom p area entry s q i → IsReachedFrom p area entry s r i
  hops_lead i q r here h = h
  hops_lead i q r (hop t u b e) h = leads_more t i r i (hops_lead i q t b h) e

module _ (p : List Step) (area : List ℕ) (entry s i : ℕ) (new : List (Option Label)) (closed : IsClosed p area i new)
    (first : i ≡ s → (v : ℕ) × Below new entry v)
    (byte : (q r n k : ℕ) → Reach p area entry s n r k → Edge p area r k q i → i ≡ k + 1 → (v : ℕ) × Below new q v) where
  whole_of : (n q : ℕ) → Reach p area entry s n q i → (v : ℕ) × Below new q v
  whole_of zero q h = let f = first h.1 in (f.0, subst (λ k. Below new k f.0) (sym h.0) f.1)
  whole_of (suc n) q h = ⊎_elim
      (λ same.
      let before = whole_of n h.0 (subst (λ k. Reach p area entry s n h.0 k) (sym same) h.2) in
      (before.0, closed h.0 q before.0 (subst (λ k. Edge p area h.0 k q i) (sym same) h.3) before.1))
      (λ later. byte q h.0 n h.1 h.2 h.3 later)
      (edge_place p area h.0 h.1 q i h.3)

module _ (p p' : List Step) (area : List ℕ) (entry s : ℕ) (same : p' ≡ p) where
  pub ahead_first : (label : ℕ) (old new : List (Option Label)) → IsEmpty old →
      ((r v : ℕ) → Below new r v → Below old r v ⊎ ((label ≤ v) × Hops p' area s entry r)) →
      ((v : ℕ) → label ≤ v → Below new entry v) → IsClosed p' area s new → AreRunLabels p area entry s s new
  ahead_first label old new none sound reached closed = record {
    sound = λ q v b. ⊎_elim
        (λ was. absurd (none q v was))
        (λ now. hops_lead p area entry s s entry q (subst (λ x. Hops x area s entry q) same now.1) (record { count = 0; reach = (refl, refl) }))
        (sound q v b);
    whole = λ q n h. whole_of p area entry s s new (subst (λ x. IsClosed x area s new) same closed)
        (λ e. (label, reached label (omega arith)))
        (λ q2 r m k before e later. (let low = reach_after p area entry s m r k before in absurd (omega (arith, low, later))))
        n q h;
  }

  pub ahead_next : (i : ℕ) (labels next : List (Option Label)) → s ≤ i → AreRunLabels p area entry s i labels →
      ((r v : ℕ) → Below next r v → (q : ℕ) × Below labels q v × Crosses p' area i q r) →
      ((q r v : ℕ) → Edge p' area q i r (i + 1) → Below labels q v → Below next r v) → IsClosed p' area (i + 1) next → AreRunLabels p area entry s (i + 1) next
  ahead_next i labels next low ahead from_old reached closed = record {
    sound = λ q v b. (
        let c = from_old q v b in
        let cross = subst (λ x. Crosses x area i c.0 q) same c.2 in
        hops_lead p area entry s (i + 1) cross.middle q cross.hops (leads_more p area entry s c.0 i cross.middle (i + 1) (ahead.sound c.0 v c.1) cross.edge));
    whole = λ q n h. whole_of p area entry s (i + 1) next (subst (λ x. IsClosed x area (i + 1) next) same closed)
        (λ e. absurd (omega (arith, e, low)))
        (λ q2 r m k before e later. (
        let here : k ≡ i = omega (arith, later) in
        let was = ahead.whole r m (subst (λ x. Reach p area entry s m r x) here before) in
        (was.0, reached r q2 was.0 (subst (λ x. Edge x area r i q2 (i + 1)) (sym same) (subst (λ x. Edge p area r x q2 (i + 1)) here e)) was.1)))
        n q h;
  }

-- labels of the states that a run's states lead to by a byte are labels of the run
module _ (p : List Step) (area : List ℕ) (entry i : ℕ) where
  pub labels_after : (In : ℕ → Type 0) (next : List (Option Label)) → AreReached p area entry i In →
      ((r v : ℕ) → Below next r v → (q : ℕ) × In q × Crosses p area i q r) →
      ((q r v : ℕ) → In q → Edge p area q i r (i + 1) → Below next r v) → IsClosed p area (i + 1) next → AreRunLabels p area entry 0 (i + 1) next
  labels_after In next now from_old reached closed = record {
    sound = λ q v b. (
        let c = from_old q v b in
        hops_lead p area entry 0 (i + 1) c.2.middle q c.2.hops (leads_more p area entry 0 c.0 i c.2.middle (i + 1) (now.sound c.0 c.1) c.2.edge));
    whole = λ q n h. whole_of p area entry 0 (i + 1) next closed
        (λ e. absurd (omega (arith, e)))
        (λ q2 r m k before e later. (
        let here : k ≡ i = omega (arith, later) in
        let was = now.whole r (record { count = m; reach = subst (λ x. Reach p area entry 0 m r x) here before }) in
        (0, reached r q2 0 was (subst (λ x. Edge p area r x q2 (i + 1)) here e))))
        n q h;
  }

module _ (g : Program) (e : Re) (fold : Bool) (area : List ℕ) (s : ℕ) (is : IsProgram g e fold) where
  leads_of : (j : ℕ) → At fold e area s j → IsReachedFrom g.steps.items area g.entry s g.exit j
  leads_of j at = let r = reach_of fold g.steps.items area e g.entry g.exit is.built s j at in record { count = r.0; reach = r.1 }

  module _ (place : ℕ) (set : List Bool) (ahead : IsRunSet g.steps.items area g.entry s place set)
      (none : (j : ℕ) → j < place → IsReachedFrom g.steps.items area g.entry s g.exit j → ⊥) where
    pub end_some : Holds set g.exit → place ≤ length area → IsLeastEnd fold e area s (Some place)
    end_some held within =
        let to = (ahead.states g.exit).0 held in (
          within,
          at_of fold g.steps.items area e g.entry g.exit is.built is.stop s to.count place to.reach,
          λ k at. (
              let choice : (place ≤ k) ⊎ (k < place) = grind arith in
              ⊎_elim (λ h. h) (λ less. absurd (none k less (leads_of k at))) choice),
        )

    pub end_none : (Holds set g.exit → ⊥) → length area ≤ place → IsLeastEnd fold e area s None
    end_none not high = λ j within at.
        let to = leads_of j at in
        let choice : (j < place) ⊎ (j ≡ place) = grind (arith, within, high) in
        ⊎_elim
        (λ less. none j less to)
        (λ here. not ((ahead.states g.exit).1 (subst (λ k. IsReachedFrom g.steps.items area g.entry s g.exit k) here to)))
        choice

-- where the set lacks a state no run leads to it
pub unmet : (p : List Step) (area : List ℕ) (entry s q j place : ℕ) (set : List Bool) → j ≡ place → IsRunSet p area entry s place set →
    (Holds set q → ⊥) → IsReachedFrom p area entry s q j → ⊥
unmet p area entry s q j place set now ahead none to = none ((ahead.states q).1 (subst (λ k. IsReachedFrom p area entry s q k) now to))
