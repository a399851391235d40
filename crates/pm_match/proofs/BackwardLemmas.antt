-- Sets of states from which the exit can be reached.
use Rattle.std.proofs.Common.{◌≡◌, ◌⊎◌, ℕ, zero, suc, ◌+◌, ◌<◌, ◌||◌, ◌&&◌, Bool, true, false, List, [], ◌∷◌, Some, length, get_or, set, refl, sym, ◌∙◌, ap, subst, inl, inr, ⊎_elim, arith}
use Rattle.std.specs.Prelude.{slice_get}
use Rattle.std.proofs.lemmas.Option.{slice_get-get_or, slice_get_within, get_or_from_slice_get}
use Rattle.pm_match.specs.declared.step.Test.{Test}
use Rattle.pm_match.specs.declared.step.Step.{Step}
use Rattle.pm_match.specs.declared.step.Step.TheVariants.{Stop, Go, Fork, Take, Range}
use Rattle.pm_match.specs.Automaton.{Edge, Run, passes, takes}
use Rattle.pm_match.specs.Backward.{ReachesExit, Holds, AllReachExit, IsExitSet, LeadsInto, IsClosedBackward, missing}
use Rattle.pm_match.proofs.EdgeLemmas.{stop_none, range_none, go_only, fork_only, take_only, stop_on, range_on, go_on, fork_on, edge_on}
use Rattle.pm_match.proofs.FindLemmas.{edge_place}

pub held_read : (bs : List Bool) (q : ℕ) → q < length bs → get_or bs q false ≡ true → Holds bs q
held_read bs q lt e = slice_get-get_or bs q false lt ∙ ap Some e

pub read_held : (bs : List Bool) (q : ℕ) → Holds bs q → get_or bs q false ≡ true
read_held bs q h = get_or_from_slice_get bs q true false h

pub and_true : (a b : Bool) → (a && b) ≡ true → (a ≡ true) × (b ≡ true)
and_true true b e = (refl, e)
and_true false b e = cc

pub true_or : (a b : Bool) → a ≡ true → (a || b) ≡ true
true_or a b e = ap (λ x. x || b) e

pub or_true_too : (a b : Bool) → b ≡ true → (a || b) ≡ true
or_true_too true b e = refl
or_true_too false b e = e

module _ (p : List Step) (area : List ℕ) (i : ℕ) (set next : List Bool) (q : ℕ) where
  pub into_here : (r : ℕ) → Edge p area q i r i → Holds set r → LeadsInto p area i set next q
  into_here r e h = record { to = r; edge = inl (e, h) }

  pub into_next : (r : ℕ) → Edge p area q i r (i + 1) → Holds next r → LeadsInto p area i set next q
  into_next r e h = record { to = r; edge = inr (e, h) }

  pub stop_into : slice_get p q ≡ Some Stop → LeadsInto p area i set next q → ⊥
  stop_into is h = ⊎_elim (λ l. stop_none p area q i h.to is l.0) (λ l. stop_on p area q i h.to is l.0) h.edge

  pub range_into : (a b : ℕ) → slice_get p q ≡ Some (Range a b) → LeadsInto p area i set next q → ⊥
  range_into a b is h = ⊎_elim (λ l. range_none p area q i a b h.to is l.0) (λ l. range_on p area q i a b h.to is l.0) h.edge

  pub go_into : (x : ℕ) → slice_get p q ≡ Some (Go x) → LeadsInto p area i set next q → Holds set x
  go_into x is h = ⊎_elim
      (λ l. subst (λ k. Holds set k) (go_only p area q i x h.to is l.0) l.1)
      (λ l. absurd (go_on p area q i x h.to is l.0))
      h.edge

  pub fork_into : (x y : ℕ) → slice_get p q ≡ Some (Fork x y) → LeadsInto p area i set next q → Holds set x ⊎ Holds set y
  fork_into x y is h = ⊎_elim
      (λ l. ⊎_elim
      (λ e. inl (subst (λ k. Holds set k) e l.1))
      (λ e. inr (subst (λ k. Holds set k) e l.1))
      (fork_only p area q i x y h.to is l.0))
      (λ l. absurd (fork_on p area q i x y h.to is l.0))
      h.edge

  abbrev TakesInto : Test → ℕ → Type 0
  TakesInto t x = ((passes t area i ≡ true) × Holds set x) ⊎ ((b : ℕ) × (slice_get area i ≡ Some b) × (takes p t b ≡ true) × Holds next x)

  next_into : (t : Test) (x r : ℕ) → slice_get p q ≡ Some (Take t x) → Edge p area q i r (i + 1) → Holds next r → TakesInto t x
  next_into t x r is e h =
      let f = edge_on p area q i r (Take t x) is e in
      ⊎_elim
      (λ l. absurd (omega (arith, l.1)))
      (λ l. inr (l.0, l.1, l.2, subst (λ k. Holds next k) f.0 h))
      f.1

  pub take_into : (t : Test) (x : ℕ) → slice_get p q ≡ Some (Take t x) → LeadsInto p area i set next q → TakesInto t x
  take_into t x is h = ⊎_elim
      (λ l. let f = take_only p area q i t x h.to is l.0 in inl (f.1, subst (λ k. Holds set k) f.0 l.1))
      (λ l. next_into t x h.to is l.0 l.1)
      h.edge

-- an edge by a byte begins in the area
byte_at : (p : List Step) (s : Step) (area : List ℕ) (q i r : ℕ) → slice_get p q ≡ Some s → Edge p area q i r (i + 1) → i < length area
byte_at p Stop area q i r is e = absurd (stop_on p area q i r is e)
byte_at p (Go x) area q i r is e = absurd (go_on p area q i x r is e)
byte_at p (Fork x y) area q i r is e = absurd (fork_on p area q i x y r is e)
byte_at p (Range a b) area q i r is e = absurd (range_on p area q i a b r is e)
byte_at p (Take t x) area q i r is e =
    let f = edge_on p area q i r (Take t x) is e in
    ⊎_elim (λ l. absurd (omega (arith, l.1))) (λ l. slice_get_within area i l.0 l.1) f.1

pub byte_within : (p : List Step) (area : List ℕ) (q i r : ℕ) → Edge p area q i r (i + 1) → i < length area
byte_within p area q i r e = byte_at p e.step area q i r e.is e

module _ (p : List Step) (area : List ℕ) (exit i : ℕ) where
  pub longer_out : (q r k : ℕ) → Edge p area q i r k → ReachesExit p area exit r k → ReachesExit p area exit q i
  longer_out q r k e h = record { end = h.end; count = suc h.count; run = (r, k, e, h.run) }

  -- what leads into the sets leads out
  pub into_out : (set next : List Bool) → (i < length area → AllReachExit p area exit (i + 1) next) → AllReachExit p area exit i set →
      (q : ℕ) → LeadsInto p area i set next q → ReachesExit p area exit q i
  into_out set next behind here q h = ⊎_elim
      (λ l. longer_out q h.to i l.0 (here h.to l.1))
      (λ l. longer_out q h.to (i + 1) l.0 (behind (byte_within p area q i h.to l.0) h.to l.1))
      h.edge

  -- where the exit is in the set, and whatever leads into the sets, it has all that leads out
  pub out_held : (set next : List Bool) → (i < length area → IsExitSet p area exit (i + 1) next) → Holds set exit → IsClosedBackward p area i set next →
      (n j q : ℕ) → Run p area exit j n q i → Holds set q
  out_held set next behind final closed zero j q run = subst (λ k. Holds set k) (sym run.0) final
  out_held set next behind final closed (suc n) j q run = ⊎_elim
      (λ same. closed q (into_here p area i set next q run.0
      (subst (λ k. Edge p area q i run.0 k) same run.2)
      (out_held set next behind final closed n j run.0 (subst (λ k. Run p area exit j n run.0 k) same run.3))))
      (λ later.
      let e = subst (λ k. Edge p area q i run.0 k) later run.2 in
      closed q (into_next p area i set next q run.0 e
      ((behind (byte_within p area q i run.0 e) run.0).1 (record { end = j; count = n; run = subst (λ k. Run p area exit j n run.0 k) later run.3 }))))
      (edge_place p area q i run.0 run.1 run.2)

-- a state more
pub set_held : (bs : List Bool) (q : ℕ) → q < length bs → Holds (set bs q true) q
set_held [] q lt = absurd (omega (arith, lt))
set_held (b ∷ bs) zero lt = refl
set_held (b ∷ bs) (suc q) lt = set_held bs q (omega (arith, lt))

pub set_kept : (bs : List Bool) (q r : ℕ) → Holds bs r → Holds (set bs q true) r
set_kept [] q r h = h
set_kept (b ∷ bs) zero zero h = refl
set_kept (b ∷ bs) zero (suc r) h = h
set_kept (b ∷ bs) (suc q) zero h = h
set_kept (b ∷ bs) (suc q) (suc r) h = set_kept bs q r h

pub set_only : (bs : List Bool) (q r : ℕ) → Holds (set bs q true) r → Holds bs r ⊎ (r ≡ q)
set_only [] q r h = inl h
set_only (b ∷ bs) zero zero h = inr refl
set_only (b ∷ bs) zero (suc r) h = inl h
set_only (b ∷ bs) (suc q) zero h = inl h
set_only (b ∷ bs) (suc q) (suc r) h = ⊎_elim (λ l. inl l) (λ e. inr (ap suc e)) (set_only bs q r h)

pub fewer_missing : (bs : List Bool) (q : ℕ) → q < length bs → get_or bs q false ≡ false → missing (set bs q true) < missing bs
fewer_missing [] q lt e = absurd (omega (arith, lt))
fewer_missing (true ∷ bs) zero lt e = cc
fewer_missing (false ∷ bs) zero lt e = omega arith
fewer_missing (true ∷ bs) (suc q) lt e = fewer_missing bs q (omega (arith, lt)) e
fewer_missing (false ∷ bs) (suc q) lt e = let f = fewer_missing bs q (omega (arith, lt)) e in omega (arith, f)

-- a state less
pub unset_only : (bs : List Bool) (q r : ℕ) → Holds (set bs q false) r → Holds bs r × (r ≡ q → ⊥)
unset_only [] q r h = cc
unset_only (b ∷ bs) zero zero h = cc
unset_only (b ∷ bs) zero (suc r) h = (h, λ e. omega (arith, e))
unset_only (b ∷ bs) (suc q) zero h = (h, λ e. omega (arith, e))
unset_only (b ∷ bs) (suc q) (suc r) h = let f = unset_only bs q r h in (f.0, λ e. f.1 (omega (arith, e)))

pub true_or_false : (b : Bool) → (b ≡ true) ⊎ (b ≡ false)
true_or_false true = inl refl
true_or_false false = inr refl

edge_in : (p : List Step) (area : List ℕ) (q i r k : ℕ) → Edge p area q i r k → q < length p
edge_in p area q i r k e = slice_get_within p q e.step e.is

pub into_within : (p : List Step) (area : List ℕ) (i : ℕ) (set next : List Bool) (q : ℕ) → LeadsInto p area i set next q → q < length p
into_within p area i set next q h = ⊎_elim (λ l. edge_in p area q i h.to i l.0) (λ l. edge_in p area q i h.to (i + 1) l.0) h.edge
