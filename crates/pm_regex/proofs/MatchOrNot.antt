-- Whether an expression matches from place i to place j.
use Rattle.std.proofs.Common.{◌≡◌, ℕ, zero, suc, ◌+◌, ◌<◌, ◌≤◌, Bool, true, false, List, [], ◌∷◌, Option, Some, None, refl, sym, subst, inl, inr, arith}
use Rattle.std.specs.Prelude.{slice_get}
use Rattle.std.proofs.lemmas.Bool.{cases_lt, cases_eq}
use Rattle.pm_regex.specs.declared.op.Times.TheVariants.{Star, Plus, Maybe}
use Rattle.pm_regex.specs.Re.{Re, nothing, one, set, seq, either, times}
use Rattle.pm_regex.specs.Matching.{At, Chain, Reads, atom_passes, atom_takes, set_takes}
use Rattle.pm_regex.proofs.Deciding.{Decided, equal_or_not, true_or_not, both, one_of, likewise, some_or_none}

reads_after : (passes takes : ℕ → Bool) (area : List ℕ) (i j : ℕ) → Reads passes takes area i j → i ≤ j
reads_after passes takes area i j (inl h) = omega (arith, h.1)
reads_after passes takes area i j (inr h) = omega (arith, h.3)

-- a step that doesn't go back
abbrev GoesOn : (ℕ → ℕ → Type 0) → Type 0
GoesOn R = (i j : ℕ) → R i j → i ≤ j

chain_after : (R : ℕ → ℕ → Type 0) → GoesOn R → (ks : List ℕ) (i j : ℕ) → Chain R ks i j → i ≤ j
chain_after R on [] i j h = omega (arith, h)
chain_after R on (k ∷ ks) i j h = (let a = on i k h.0 in let b = chain_after R on ks k j h.1 in omega (arith, a, b))

-- a match doesn't end before it starts
pub at_after : (fold : Bool) (area : List ℕ) (e : Re) (i j : ℕ) → At fold e area i j → i ≤ j
at_after fold area nothing i j h = omega (arith, h)
at_after fold area (one a) i j h = reads_after (λ k. atom_passes a area k) (λ b. atom_takes fold a b) area i j h
at_after fold area (set negated rs) i j h = reads_after (λ k. false) (λ b. set_takes fold negated rs b) area i j h
at_after fold area (seq a b) i j h = (let x = at_after fold area a i h.0 h.1 in let y = at_after fold area b h.0 j h.2 in omega (arith, x, y))
at_after fold area (either a b) i j (inl h) = at_after fold area a i j h
at_after fold area (either a b) i j (inr h) = at_after fold area b i j h
at_after fold area (times Star a) i j h = chain_after (λ k l. At fold a area k l) (at_after fold area a) h.0 i j h.1
at_after fold area (times Plus a) i j h =
    (let x = at_after fold area a i h.0 h.2 in let y = chain_after (λ k l. At fold a area k l) (at_after fold area a) h.1 h.0 j h.3 in omega (arith, x, y))
at_after fold area (times Maybe a) i j (inl h) = omega (arith, h)
at_after fold area (times Maybe a) i j (inr h) = at_after fold area a i j h

-- the byte that stands there is taken, and the match ends after it
abbrev Taken : (ℕ → Bool) → Option ℕ → ℕ → ℕ → Type 0
Taken takes there i j = (b : ℕ) × (there ≡ Some b) × (takes b ≡ true) × (j ≡ i + 1)

taken_or_not : (takes : ℕ → Bool) (there : Option ℕ) (i j : ℕ) → Decided (Taken takes there i j)
taken_or_not takes None i j = inr (λ h. (let e = h.1 in cc))
taken_or_not takes (Some c) i j = elim (true_or_not (takes c)) [
  | inl taken ↦ elim (equal_or_not j (i + 1)) [ inl e ↦ inl (c, refl, taken, e) | inr nay ↦ inr (λ h. nay h.3) ]
  | inr nay ↦ inr (λ h. (let same : h.0 ≡ c = (let e = h.1 in cc) in nay (subst (λ b. takes b ≡ true) same h.2)))
]

reads_or_not : (passes takes : ℕ → Bool) (area : List ℕ) (i j : ℕ) → Decided (Reads passes takes area i j)
reads_or_not passes takes area i j =
    one_of (both (true_or_not (passes i)) (equal_or_not j i)) (taken_or_not takes (slice_get area i) i j)

module _ (R : ℕ → ℕ → Type 0) (decide : (i j : ℕ) → Decided (R i j)) (on : GoesOn R) where
  -- some places lead from i to j
  abbrev Chained : ℕ → ℕ → Type 0
  Chained i j = (ks : List ℕ) × Chain R ks i j

  -- a first place after i
  abbrev Hop : ℕ → ℕ → ℕ → Type 0
  Hop i j k = (i < k) × R i k × Chained k j

  first_hop : (ks : List ℕ) (i j : ℕ) → (i ≡ j → ⊥) → Chain R ks i j → (k : ℕ) × Hop i j k
  first_hop [] i j other h = absurd (other h)
  first_hop (k ∷ ks) i j other h = elim (cases_eq i k) [
    | inl same ↦ first_hop ks i j other (subst (λ p. Chain R ks p j) (sym same) h.1)
    | inr nay ↦ (let a = on i k h.0 in (k, (omega (arith, a, nay), h.0, (ks, h.1))))
  ]

  hop_within : (i j k : ℕ) → Hop i j k → k < suc j
  hop_within i j k h = (let c = h.2 in let b = chain_after R on c.0 k j c.1 in omega (arith, b))

  hop_or_not : (i j : ℕ) → ((k : ℕ) → i < k → Decided (Chained k j)) → (k : ℕ) → Decided (Hop i j k)
  hop_or_not i j rest k = elim (cases_lt i k) [
    | inl less ↦ elim (decide i k) [
      | inl r ↦ elim (rest k less) [ inl c ↦ inl (less, r, c) | inr nay ↦ inr (λ h. nay h.2) ]
      | inr nay ↦ inr (λ h. nay h.1)
    ]
    | inr ge ↦ inr (λ h. (let less = h.0 in absurd (omega (arith, less, ge))))
  ]

  longer : (i j k : ℕ) → Hop i j k → Chained i j
  longer i j k h = (let c = h.2 in (k ∷ c.0, (h.1, c.1)))

  by_hops : (i j : ℕ) → (i ≡ j → ⊥) → Decided ((k : ℕ) × Hop i j k) → Decided (Chained i j)
  by_hops i j other (inl h) = inl (longer i j h.0 h.1)
  by_hops i j other (inr none) = inr (λ h. none (first_hop h.0 i j other h.1))

  pub chain_or_not : (n i j : ℕ) → j ≤ n + i → Decided (Chained i j)
  chain_or_not zero i j near = elim (cases_eq i j) [
    | inl same ↦ inl ([], same)
    | inr other ↦ inr (λ h. (let a = chain_after R on h.0 i j h.1 in absurd (other (omega (arith, a, near)))))
  ]
  chain_or_not (suc n) i j near = elim (cases_eq i j) [
    | inl same ↦ inl ([], same)
    | inr other ↦ by_hops i j other (some_or_none (Hop i j) (hop_or_not i j (λ k less. chain_or_not n k j (omega (arith, less, near)))) (suc j) (hop_within i j))
  ]

module _ (fold : Bool) (area : List ℕ) where
  seq_or_not : (a b : Re) → ((i j : ℕ) → Decided (At fold a area i j)) → ((i j : ℕ) → Decided (At fold b area i j)) → (i j : ℕ) → Decided (At fold (seq a b) area i j)
  seq_or_not a b da db i j =
      likewise (λ h. (h.0, (h.1).0, (h.1).1)) (λ h. (h.0, (h.1, h.2)))
      (some_or_none (λ k. At fold a area i k × At fold b area k j) (λ k. both (da i k) (db k j)) (suc j)
      (λ k h. (let x = at_after fold area b k j h.1 in omega (arith, x))))

  plus_or_not : (a : Re) → ((i j : ℕ) → Decided (At fold a area i j)) → (i j : ℕ) → Decided (At fold (times Plus a) area i j)
  plus_or_not a da i j =
      likewise (λ h. (h.0, ((h.1).1).0, (h.1).0, ((h.1).1).1)) (λ h. (h.0, (h.2, (h.1, h.3))))
      (some_or_none (λ k. At fold a area i k × ((ks : List ℕ) × Chain (λ p l. At fold a area p l) ks k j))
      (λ k. both (da i k) (chain_or_not (λ p l. At fold a area p l) da (at_after fold area a) j k j (omega arith))) (suc j)
      (λ k h. (let c = h.1 in let x = chain_after (λ p l. At fold a area p l) (at_after fold area a) c.0 k j c.1 in omega (arith, x))))

  pub at_or_not : (e : Re) (i j : ℕ) → Decided (At fold e area i j)
  at_or_not nothing i j = equal_or_not i j
  at_or_not (one a) i j = reads_or_not (λ k. atom_passes a area k) (λ b. atom_takes fold a b) area i j
  at_or_not (set negated rs) i j = reads_or_not (λ k. false) (λ b. set_takes fold negated rs b) area i j
  at_or_not (seq a b) i j = seq_or_not a b (at_or_not a) (at_or_not b) i j
  at_or_not (either a b) i j = one_of (at_or_not a i j) (at_or_not b i j)
  at_or_not (times Star a) i j = chain_or_not (λ k l. At fold a area k l) (at_or_not a) (at_after fold area a) j i j (omega arith)
  at_or_not (times Plus a) i j = plus_or_not a (at_or_not a) i j
  at_or_not (times Maybe a) i j = one_of (equal_or_not i j) (at_or_not a i j)
