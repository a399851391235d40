-- What holds of an answer, and what follows from it.
use Rattle.std.proofs.Common.{◌≡◌, inl, inr, ℕ, Bool, not, List, Result, Ok, Err, IfOk, length, refl, ◌∙◌, arith}
use Rattle.std.specs.Prelude.{position, unwrap_or}
use Rattle.std.specs.List.{position_or_len}
use Rattle.std.proofs.lemmas.Bool.{cases_lt, lt-ltb, le-ltb}
use Rattle.std.proofs.lemmas.List.Sums.{prefix_len-le-length}
use Rattle.pm_bytes.specs.declared.error.Memory.{Memory}
use Rattle.pm_meaning.specs.declared.question.Outcome.{Outcome}

-- an outcome that is the same as another
pub comes_to : (r : Result Outcome Memory) (x y : Outcome) → x ≡ y → IfOk r (λ come. come ≡ x) → IfOk r (λ come. come ≡ y)
comes_to (Ok come) x y e h = h ∙ e
comes_to (Err m) x y e h = tt

-- the place of a byte, or the end
pub stop_is : (p : ℕ → Bool) (text : List ℕ) → unwrap_or (position p text) (length text) ≡ position_or_len p text
stop_is p text = elim (cases_lt (position_or_len p text) (length text)) [
  | inl less ↦ rw (lt-ltb (position_or_len p text) (length text) less) refl
  | inr ge ↦ rw (le-ltb (position_or_len p text) (length text) ge) (let within = prefix_len-le-length (λ b. not (p b)) text in omega (arith, ge, within))
]
