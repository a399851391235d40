-- In each area one number of matches stands one after the other.
use Rattle.std.proofs.Common.{◌≡◌, ℕ, zero, suc, ◌+◌, ◌≤◌, Bool, List, [], ◌∷◌, length, Some, None, refl, sym, ◌∙◌, ap, subst, inl, inr, arith}
use Rattle.std.proofs.lemmas.Bool.{cases_lt}
use Rattle.pm_regex.specs.Re.{Re, Whole}
use Rattle.pm_regex.specs.declared.found.Found.{Found}
use Rattle.pm_regex.specs.Found.{IsPlainMatch, IsPlainFound, IsRun, IsCount, place_after, without_cut}
use Rattle.pm_regex.proofs.Deciding.{Decided, both, likewise, some_or_none, least_or_none}
use Rattle.pm_regex.proofs.MatchOrNot.{at_or_not, at_after}

-- the place is in the area
within_or_not : (s n : ℕ) → Decided (s ≤ n)
within_or_not s n = elim (cases_lt n s) [ inl less ↦ inr (λ h. absurd (omega arith)) | inr inside ↦ inl inside ]

-- the search goes on after where the match began
goes_on : (from start end : ℕ) → from ≤ start → start ≤ end → from + 1 ≤ place_after start end
goes_on from start end after order = grind (arith, after, order)

module _ (fold : Bool) (e : Re) (area : List ℕ) where
  abbrev Plain : ℕ → ℕ → ℕ → Type 0
  Plain from s j = IsPlainMatch fold e area from s j

  -- a match that begins before the area's end
  abbrev Begins : ℕ → ℕ → Type 0
  Begins from s = (suc s ≤ length area) × ((j : ℕ) × Plain from s j)

  plain_or_not : (from s j : ℕ) → Decided (Plain from s j)
  plain_or_not from s j =
      likewise (λ h. record { after = (h.0).0; start_in = (h.0).1; end_in = (h.1).0; at = (h.1).1 }) (λ m. ((m.after, m.start_in), (m.end_in, m.at)))
      (both (both (within_or_not from s) (within_or_not s (length area))) (both (within_or_not j (length area)) (at_or_not fold area e s j)))

  plain_from : (from s : ℕ) → Decided ((j : ℕ) × Plain from s j)
  plain_from from s =
      some_or_none (λ j. Plain from s j) (plain_or_not from s) (suc (length area)) (λ j m. (let inside = m.end_in in omega (arith, inside)))

  begins_or_not : (from s : ℕ) → Decided (Begins from s)
  begins_or_not from s = both (within_or_not (suc s) (length area)) (plain_from from s)

  -- the matches one after the other from a place on, which is so far from the area's end at most
  abbrev Run_from : ℕ → Type 0
  Run_from from = (ms : List Found) × IsRun fold e area from ms

  run_from : (n from : ℕ) → length area ≤ from + n → Run_from from
  run_from zero from near = ([], λ s j less m. (let after = m.after in absurd (omega (arith, after, less, near))))
  run_from (suc n) from near = elim (least_or_none (λ s. Begins from s) (begins_or_not from) (suc (length area))) [
    | inr none ↦ ([], λ s j less m. none s (let inside = m.start_in in omega (arith, inside)) (less, (j, m)))
    | inl a ↦ elim (least_or_none (λ j. Plain from a.number j) (plain_or_not from a.number) (suc (length area))) [
      | inr none ↦ (let h = (a.holds).1 in absurd (none h.0 (let inside = (h.1).end_in in omega (arith, inside)) h.1))
      | inl b ↦ (
          let order = at_after fold area e a.number b.number (b.holds).at in
          let further = goes_on from a.number b.number (b.holds).after order in
          let rest = run_from n (place_after a.number b.number) (omega (arith, further, near)) in
          let inside : suc a.number ≤ length area = (a.holds).0 in (
            record { start = a.number; cut = None; end = b.number } ∷ rest.0,
            (
              inside,
              (
                refl,
                b.holds,
                (λ s j m. elim (cases_lt s (length area)) [ inl less ↦ a.least s (less, (j, m)) | inr ge ↦ omega (arith, ge, inside) ]),
                b.least,
              ),
              rest.1,
            ),
          ))
    ]
  ]

  same_found : (x y : Found) → x.start ≡ y.start → x.cut ≡ y.cut → x.end ≡ y.end → x ≡ y
  same_found x y s c f =
      ap (λ n. record { start = n; cut = x.cut; end = x.end }) s ∙ ap (λ o. record { start = y.start; cut = o; end = x.end }) c
      ∙ ap (λ n. record { start = y.start; cut = y.cut; end = n }) f

  one_plain : (from : ℕ) (x y : Found) → IsPlainFound fold e area from (Some x) → IsPlainFound fold e area from (Some y) → x ≡ y
  one_plain from x y h k =
      let a = h.2 y.start y.end k.1 in
      let b = k.2 x.start x.end h.1 in
      let start : x.start ≡ y.start = omega (arith, a, b) in
      let c = h.3 y.end (subst (λ s. Plain from s y.end) (sym start) k.1) in
      let d = k.3 x.end (subst (λ s. Plain from s x.end) start h.1) in
      same_found x y start (h.0 ∙ sym k.0) (omega (arith, c, d))

  one_run : (from : ℕ) (ms ns : List Found) → IsRun fold e area from ms → IsRun fold e area from ns → ms ≡ ns
  one_run from [] [] h k = refl
  one_run from [] (y ∷ ns) h k = absurd (h y.start y.end k.0 (k.1).1)
  one_run from (x ∷ ms) [] h k = absurd (k x.start x.end h.0 (h.1).1)
  one_run from (x ∷ ms) (y ∷ ns) h k =
      let same = one_plain from x y h.1 k.1 in
      ap (λ m. m ∷ ms) same
      ∙ ap (λ l. y ∷ l) (one_run (place_after y.start y.end) ms ns (subst (λ m. IsRun fold e area (place_after m.start m.end) ms) same h.2) k.2)

-- how many matches of an expression stand in an area
pub count_of : (fold : Bool) (e : Whole) (area : List ℕ) → (n : ℕ) × IsCount fold e area n
count_of fold e area =
    let run = run_from fold (without_cut e.left e.right) area (length area) 0 (omega arith) in
    (length run.0, (run.0, run.1, refl))

-- and no other number of them
pub one_count : (fold : Bool) (e : Whole) (area : List ℕ) (n m : ℕ) → IsCount fold e area n → IsCount fold e area m → n ≡ m
one_count fold e area n m h k = h.2 ∙ ap (λ l. length l) (one_run fold (without_cut e.left e.right) area 0 h.0 k.0 h.1 k.1) ∙ sym k.2
