-- In each area one match of an expression is found, or none.
use Rattle.std.proofs.Common.{◌≡◌, ℕ, suc, ◌≤◌, Bool, List, length, Option, Some, None, refl, sym, ◌∙◌, ap, subst, inl, inr, arith}
use Rattle.std.proofs.lemmas.Bool.{cases_lt}
use Rattle.pm_regex.specs.Re.{Re, Whole}
use Rattle.pm_regex.specs.declared.found.Found.{Found}
use Rattle.pm_regex.specs.Found.{IsMatch, IsPlainMatch, IsPlainFound, IsCutFound, IsFoundOf, IsFound}
use Rattle.pm_regex.proofs.Deciding.{Decided, both, likewise, some_or_none, least_or_none, greatest_or_none}
use Rattle.pm_regex.proofs.MatchOrNot.{at_or_not}

-- the place is in the area
within_or_not : (s n : ℕ) → Decided (s ≤ n)
within_or_not s n = elim (cases_lt n s) [ inl less ↦ inr (λ h. absurd (omega arith)) | inr inside ↦ inl inside ]

-- some match is found, or none
abbrev Some_of : (Option Found → Type 0) → Type 0
Some_of Is = (f : Option Found) × Is f

module _ (fold : Bool) (e : Re) (area : List ℕ) where
  abbrev Plain : ℕ → ℕ → Type 0
  Plain s j = IsPlainMatch fold e area 0 s j

  plain_or_not : (s j : ℕ) → Decided (Plain s j)
  plain_or_not s j =
      likewise (λ h. record { after = omega arith; start_in = h.0; end_in = (h.1).0; at = (h.1).1 }) (λ m. (m.start_in, (m.end_in, m.at)))
      (both (within_or_not s (length area)) (both (within_or_not j (length area)) (at_or_not fold area e s j)))

  plain_from : (s : ℕ) → Decided ((j : ℕ) × Plain s j)
  plain_from s = some_or_none (λ j. Plain s j) (plain_or_not s) (suc (length area)) (λ j m. (let inside = m.end_in in omega (arith, inside)))

  pub some_plain : Some_of (IsPlainFound fold e area 0)
  some_plain = elim (least_or_none (λ s. (j : ℕ) × Plain s j) plain_from (suc (length area))) [
    | inr none ↦ (None, λ s j m. none s (let inside = m.start_in in omega (arith, inside)) (j, m))
    | inl a ↦ elim (least_or_none (λ j. Plain a.number j) (plain_or_not a.number) (suc (length area))) [
      | inr none ↦ (let h = a.holds in absurd (none h.0 (let inside = (h.1).end_in in omega (arith, inside)) h.1))
      | inl b ↦ (Some (record { start = a.number; cut = None; end = b.number }), (refl, b.holds, (λ s j m. a.least s (j, m)), b.least))
    ]
  ]

module _ (fold : Bool) (l r : Re) (area : List ℕ) where
  abbrev Cut : ℕ → ℕ → ℕ → Type 0
  Cut s c j = IsMatch fold l r area 0 s c j

  cut_or_not : (s c j : ℕ) → Decided (Cut s c j)
  cut_or_not s c j =
      likewise
      (λ h. record { after = omega arith; start_in = (h.0).0; cut_in = ((h.0).1).0; end_in = ((h.0).1).1; left = (h.1).0; right = (h.1).1 })
      (λ m. ((m.start_in, (m.cut_in, m.end_in)), (m.left, m.right)))
      (both (both (within_or_not s (length area)) (both (within_or_not c (length area)) (within_or_not j (length area))))
      (both (at_or_not fold area l s c) (at_or_not fold area r c j)))

  cut_from : (s c : ℕ) → Decided ((j : ℕ) × Cut s c j)
  cut_from s c = some_or_none (λ j. Cut s c j) (cut_or_not s c) (suc (length area)) (λ j m. (let inside = m.end_in in omega (arith, inside)))

  start_from : (s : ℕ) → Decided ((c : ℕ) × ((j : ℕ) × Cut s c j))
  start_from s =
      some_or_none (λ c. (j : ℕ) × Cut s c j) (cut_from s) (suc (length area)) (λ c h. (let inside = (h.1).cut_in in omega (arith, inside)))

  ended : (s c : ℕ) → ((j : ℕ) × Cut s c j) → ((s' c' j : ℕ) → Cut s' c' j → s ≤ s') → ((c' j : ℕ) → Cut s c' j → c ≤ c') → Some_of (IsCutFound fold l r area)
  ended s c h starts cuts = elim (greatest_or_none (λ j. Cut s c j) (cut_or_not s c) (suc (length area))) [
    | inr none ↦ absurd (none h.0 (let inside = (h.1).end_in in omega (arith, inside)) h.1)
    | inl d ↦ (
      Some (record { start = s; cut = Some c; end = d.number }),
      (c, refl, d.holds, starts, cuts, (λ j m. d.greatest j (let inside = m.end_in in omega (arith, inside)) m)),
    )
  ]

  pub some_cut : Some_of (IsCutFound fold l r area)
  some_cut = elim (least_or_none (λ s. (c : ℕ) × ((j : ℕ) × Cut s c j)) start_from (suc (length area))) [
    | inr none ↦ (None, λ s c j m. none s (let inside = m.start_in in omega (arith, inside)) (c, (j, m)))
    | inl a ↦ elim (least_or_none (λ c. (j : ℕ) × Cut a.number c j) (cut_from a.number) (suc (length area))) [
      | inr none ↦ (let h = a.holds in absurd (none h.0 (let inside = ((h.1).1).cut_in in omega (arith, inside)) h.1))
      | inl b ↦ ended a.number b.number b.holds (λ s c j m. a.least s (c, (j, m))) (λ c j m. b.least c (j, m))
    ]
  ]

some_of : (fold : Bool) (l : Option Re) (r : Re) (area : List ℕ) → Some_of (IsFoundOf fold l r area)
some_of fold None r area = some_plain fold r area
some_of fold (Some l) r area = some_cut fold l r area

-- what is found of an expression in an area
pub found_of : (fold : Bool) (e : Whole) (area : List ℕ) → (f : Option Found) × IsFound fold e area f
found_of fold e area = some_of fold e.left e.right area

same_found : (x y : Found) → x.start ≡ y.start → x.cut ≡ y.cut → x.end ≡ y.end → x ≡ y
same_found x y s c e =
    ap (λ n. record { start = n; cut = x.cut; end = x.end }) s ∙ ap (λ o. record { start = y.start; cut = o; end = x.end }) c
    ∙ ap (λ n. record { start = y.start; cut = y.cut; end = n }) e

module _ (fold : Bool) (e : Re) (area : List ℕ) where
  one_plain : (f g : Option Found) → IsPlainFound fold e area 0 f → IsPlainFound fold e area 0 g → f ≡ g
  one_plain None None h k = refl
  one_plain None (Some y) h k = absurd (h y.start y.end k.1)
  one_plain (Some x) None h k = absurd (k x.start x.end h.1)
  one_plain (Some x) (Some y) h k =
      let a = h.2 y.start y.end k.1 in
      let b = k.2 x.start x.end h.1 in
      let start : x.start ≡ y.start = omega (arith, a, b) in
      let c = h.3 y.end (subst (λ s. IsPlainMatch fold e area 0 s y.end) (sym start) k.1) in
      let d = k.3 x.end (subst (λ s. IsPlainMatch fold e area 0 s x.end) start h.1) in
      ap (λ m. Some m) (same_found x y start (h.0 ∙ sym k.0) (omega (arith, c, d)))

module _ (fold : Bool) (l r : Re) (area : List ℕ) where
  one_cut : (f g : Option Found) → IsCutFound fold l r area f → IsCutFound fold l r area g → f ≡ g
  one_cut None None h k = refl
  one_cut None (Some y) h k = absurd (h y.start k.0 y.end k.2)
  one_cut (Some x) None h k = absurd (k x.start h.0 x.end h.2)
  one_cut (Some x) (Some y) h k =
      let a = h.3 y.start k.0 y.end k.2 in
      let b = k.3 x.start h.0 x.end h.2 in
      let start : x.start ≡ y.start = omega (arith, a, b) in
      let there = subst (λ s. IsMatch fold l r area 0 s k.0 y.end) (sym start) k.2 in
      let back = subst (λ s. IsMatch fold l r area 0 s h.0 x.end) start h.2 in
      let c = h.4 k.0 y.end there in
      let d = k.4 h.0 x.end back in
      let cut : h.0 ≡ k.0 = omega (arith, c, d) in
      let u = h.5 y.end (subst (λ p. IsMatch fold l r area 0 x.start p y.end) (sym cut) there) in
      let v = k.5 x.end (subst (λ p. IsMatch fold l r area 0 y.start p x.end) cut back) in
      ap (λ m. Some m) (same_found x y start (h.1 ∙ ap (λ p. Some p) cut ∙ sym k.1) (omega (arith, u, v)))

one_of : (fold : Bool) (l : Option Re) (r : Re) (area : List ℕ) (f g : Option Found) → IsFoundOf fold l r area f → IsFoundOf fold l r area g → f ≡ g
one_of fold None r area f g h k = one_plain fold r area f g h k
one_of fold (Some l) r area f g h k = one_cut fold l r area f g h k

-- and nothing else is found there
pub one_found : (fold : Bool) (e : Whole) (area : List ℕ) (f g : Option Found) → IsFound fold e area f → IsFound fold e area g → f ≡ g
one_found fold e area f g h k = one_of fold e.left e.right area f g h k
