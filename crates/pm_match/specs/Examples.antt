-- What the definitions of listed sets, and of a search from any place, say of short texts.
use Rattle.std.specs.Prelude.{◌≡◌, ℕ, List, [], ◌∷◌, false, true, codes}
use Rattle.pm_regex.specs.declared.op.Atom.TheVariants.{Byte, Any, LineStart}
use Rattle.pm_match.specs.declared.sets.Span.{Span}
use Rattle.pm_match.specs.declared.step.Step.{Step}
use Rattle.pm_match.specs.declared.step.Step.TheVariants.{Stop, Fork, Take}
use Rattle.pm_match.specs.declared.step.Test.TheVariants as test
use Rattle.pm_match.specs.Forward.{IsReachedFrom}
use Rattle.pm_match.specs.Lists.{Has, IsIn, IsSetOf, NoneGoesOn}

-- states, and the last two of them
abbrev pub states : List ℕ
states = 3 ∷ 5 ∷ 9 ∷ []

abbrev pub last_two : Span
last_two = record { start = 1; end = 3; goes_on = false }

abbrev pub middle : Span
middle = record { start = 1; end = 2; goes_on = false }

-- which states a span has, and of which set it is
pub record OfLists : Type 0 where
  pub first : Has states last_two 5
  pub last : Has states last_two 9
  pub before : Has states last_two 3 → ⊥
  pub behind : Has states middle 9 → ⊥
  pub in_list : IsIn states 3
  pub not_in_list : IsIn states 4 → ⊥
  pub set : IsSetOf (last_two ∷ []) states (9 ∷ 5 ∷ []) false 0
  pub other_flag : IsSetOf (last_two ∷ []) states (9 ∷ 5 ∷ []) true 0 → ⊥
  pub too_few : IsSetOf (last_two ∷ []) states (5 ∷ []) false 0 → ⊥
  pub too_many : IsSetOf (middle ∷ []) states (9 ∷ 5 ∷ []) false 0 → ⊥
  pub no_number : IsSetOf (last_two ∷ []) states (9 ∷ 5 ∷ []) false 1 → ⊥

-- an automaton of the letter a, from state 1 to state 0, and before it one that reads any bytes, from state 2 on
abbrev pub anywhere : List Step
anywhere = Stop ∷ Take (test.One (Byte 97) false) 0 ∷ Fork 3 1 ∷ Fork 4 5 ∷ Take (test.One Any false) 2 ∷ Take (test.One LineStart false) 2 ∷ []

-- where a match that doesn't begin at the front ends, and which of the states before state 2 goes on
pub record OfAnywhere : Type 0 where
  pub after_a_letter : IsReachedFrom anywhere (codes "ba") 2 0 0 2
  pub after_a_newline : IsReachedFrom anywhere (codes "\na") 2 0 0 2
  pub by_the_letter : NoneGoesOn anywhere (codes "ba") 2 1 (λ q. q ≡ 1) → ⊥
  pub by_another : NoneGoesOn anywhere (codes "ba") 2 0 (λ q. q ≡ 1)
  pub at_its_end : NoneGoesOn anywhere (codes "ba") 2 1 (λ q. q ≡ 0)
  pub not_before : NoneGoesOn anywhere (codes "ba") 2 1 (λ q. q ≡ 2)
