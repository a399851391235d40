-- What the label at the exit says of whether anything matches.
use Rattle.std.proofs.Common.{◌≡◌, ℕ, Bool, ◌+◌, ◌^◌, ◌<◌, ◌≤◌, List, Option, Some, None, refl, sym, ◌∙◌, subst, arith}
use Rattle.pm_match.specs.declared.labels.Label.{Label}
use Rattle.pm_regex.specs.Re.{Re}
use Rattle.pm_match.specs.Finding.{IsBestBefore, IsFirst}
use Rattle.pm_match.proofs.BestLemmas.{EndsHere, best_more}

-- the cut of a label that came
pub none_fits : (label : Option Label) → label ≡ None → (m : Label) → label ≡ Some m → m.cut < 2 ^ 64
none_fits label none m is = absurd (let e : None ≡ Some m = sym none ∙ is in cc)

pub some_fits : (label : Option Label) (u : Label) → label ≡ Some u → u.cut < 2 ^ 64 → (m : Label) → label ≡ Some m → m.cut < 2 ^ 64
some_fits label u came fits m is =
    let e : Some u ≡ Some m = sym came ∙ is in
    let same : u ≡ m = cc in subst (λ x. x.cut < 2 ^ 64) same fits

module _ (fold : Bool) (l r : Re) (area : List ℕ) where
  -- without a label no match ends at a place more
  pub none_more : (base i : ℕ) (label : Option Label) → label ≡ None → IsBestBefore fold l r area base i None → EndsHere fold l r area base i label →
      IsBestBefore fold l r area base (i + 1) None
  none_more base i label is none ends =
      best_more fold l r area base i None label None none ends (λ _. refl) (λ u e _. cc) (λ u f e g _. cc) (λ u f e g _. refl)

  -- with one a match ends here
  pub some_first : (from base i : ℕ) (label : Option Label) (u : Label) → label ≡ Some u → from ≤ base → EndsHere fold l r area base i label → IsFirst fold l r area from None → ⊥
  some_first from base i label u is after ends none =
      let h = subst (λ x. EndsHere fold l r area base i x) is ends in
      let m = h.0 in
      none u.start u.cut i (record { after = (let low = m.after in omega (arith, low, after)); start_in = m.start_in; cut_in = m.cut_in; end_in = m.end_in; left = m.left; right = m.right })

  -- where nothing matches from a place on, nothing does from a later one
  pub from_first : (from base : ℕ) → from ≤ base → IsFirst fold l r area from None → IsFirst fold l r area base None
  from_first from base after none s c j m =
      none s c j (record { after = (let low = m.after in omega (arith, low, after)); start_in = m.start_in; cut_in = m.cut_in; end_in = m.end_in; left = m.left; right = m.right })
