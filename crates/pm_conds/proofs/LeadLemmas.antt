-- How far what stands before a test is read.
use Rattle.std.proofs.Common.{◌≡◌, ◌≢◌, ℕ, zero, suc, ◌+◌, ◌-◌, ◌<◌, ◌≤◌, length, Option, Some, None, refl, ◌∙◌, ap, arith}
use Rattle.pm_meaning.specs.Leads.{Asking, next_asking, asked_within, asked}

-- some steps lead from the one to the other, and each takes a byte at least
pub record IsPassed (start now : Asking) : Type 0 where
  pub steps : ℕ
  pub room : steps + length now.text ≤ length start.text
  pub goes : (n : ℕ) → asked_within (n + steps) start ≡ asked_within n now

one_step : (n : ℕ) (now next : Asking) → next_asking now ≡ Some next → asked_within (suc n) now ≡ asked_within n next
one_step n now next is = ap (λ o. elim o [ Some x ↦ asked_within n x | None ↦ now ]) is

pub passed_more : (start now next : Asking) → next_asking now ≡ Some next → length next.text < length now.text → IsPassed start now → IsPassed start next
passed_more start now next is less h = record {
  steps = suc h.steps;
  room = (let r = h.room in omega (arith, r, less));
  goes = λ n.
      let same : n + suc h.steps ≡ suc n + h.steps = omega arith in
      ap (λ k. asked_within k start) same ∙ h.goes (suc n) ∙ one_step n now next is;
}

no_step : (n : ℕ) (now : Asking) → next_asking now ≡ None → asked_within n now ≡ now
no_step zero now is = refl
no_step (suc n) now is = ap (λ o. elim o [ Some x ↦ asked_within n x | None ↦ now ]) is

pub passed_end : (start last : Asking) → next_asking last ≡ None → IsPassed start last → asked start ≡ last
passed_end start last is h =
    let same : length start.text ≡ (length start.text - h.steps) + h.steps = (let r = h.room in omega (arith, r)) in
    ap (λ k. asked_within k start) same ∙ h.goes (length start.text - h.steps) ∙ no_step (length start.text - h.steps) last is

-- an answer that is none of these
pub none_of : {X : Type 0} (o : Option X) → ((x : X) → o ≢ Some x) → o ≡ None
none_of None h = refl
none_of (Some x) h = absurd (h x refl)
