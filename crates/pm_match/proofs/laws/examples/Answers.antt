use Rattle.std.specs.Prelude.{codes, slice_get}
use Rattle.std.proofs.Common.{◌≡◌, ℕ, zero, suc, ◌<◌, ◌≤◌, false, true, List, [], ◌∷◌, Some, refl, inl, inr, ⊎_elim, ap, sym, ◌∙◌, subst, arith}
use Rattle.pm_match.specs.Examples.{states, last_two, middle, anywhere}
use Rattle.pm_regex.specs.declared.op.Atom.TheVariants.{Byte}
use Rattle.pm_match.specs.declared.step.Step.TheVariants.{Stop, Take}
use Rattle.pm_match.specs.declared.step.Test.{Test}
use Rattle.pm_match.specs.declared.step.Test.TheVariants as test
use Rattle.pm_match.specs.Automaton.{Edge, StepEdge, takes}
use Rattle.pm_match.specs.Lists.{Has, IsIn}
use Rattle.pm_match.proofs.laws.examples.Goals as goal

-- the states at the places of the last two, and at that of the middle one
five_or_nine : (k q : ℕ) → 1 ≤ k → k < 3 → slice_get states k ≡ Some q → IsIn (9 ∷ 5 ∷ []) q
five_or_nine zero q low high is = absurd (omega (arith, low))
five_or_nine (suc zero) q low high is = (1, is)
five_or_nine (suc (suc zero)) q low high is = (0, is)
five_or_nine (suc (suc (suc k))) q low high is = absurd (omega (arith, high))

listed : (k q : ℕ) → slice_get (9 ∷ 5 ∷ []) k ≡ Some q → Has states last_two q
listed zero q is = (2, omega arith, omega arith, is)
listed (suc zero) q is = (1, omega arith, omega arith, is)
listed (suc (suc k)) q is = cc

no_three : (k : ℕ) → 1 ≤ k → slice_get states k ≡ Some 3 → ⊥
no_three zero low is = absurd (omega (arith, low))
no_three (suc zero) low is = cc
no_three (suc (suc zero)) low is = cc
no_three (suc (suc (suc k))) low is = cc

no_nine : (k : ℕ) → k < 2 → slice_get states k ≡ Some 9 → ⊥
no_nine zero high is = cc
no_nine (suc zero) high is = cc
no_nine (suc (suc k)) high is = absurd (omega (arith, high))

no_four : (k : ℕ) → slice_get states k ≡ Some 4 → ⊥
no_four zero is = cc
no_four (suc zero) is = cc
no_four (suc (suc zero)) is = cc
no_four (suc (suc (suc k))) is = cc

abbrev five : List ℕ
five = 5 ∷ []

five_alone : (k : ℕ) → slice_get five k ≡ Some 9 → ⊥
five_alone zero is = cc
five_alone (suc k) is = cc

-- the letter a takes no b, and the end of the automaton no byte
abbrev a_test : Test
a_test = test.One (Byte 97) false

no_b : (q r : ℕ) → q ≡ 1 → Edge anywhere (codes "ba") q 0 r 1 → ⊥
no_b q r at e =
    let is : slice_get anywhere 1 ≡ Some e.step = subst (λ k. slice_get anywhere k ≡ Some e.step) at e.is in
    let same : Take a_test 0 ≡ e.step = cc in
    let edge : StepEdge anywhere (Take a_test 0) (codes "ba") 0 r 1 = subst (λ s. StepEdge anywhere s (codes "ba") 0 r 1) (sym same) e.edge in
    ⊎_elim
    (λ one. omega (arith, one.1))
    (λ two.
    let byte : Some 98 ≡ Some two.0 = two.1 in
    let b : 98 ≡ two.0 = cc in
    let t : takes anywhere a_test 98 ≡ true = subst (λ x. takes anywhere a_test x ≡ true) (sym b) two.2 in cc)
    edge.1

no_end : (q r : ℕ) → q ≡ 0 → Edge anywhere (codes "ba") q 1 r 2 → ⊥
no_end q r at e =
    let is : slice_get anywhere 0 ≡ Some e.step = subst (λ k. slice_get anywhere k ≡ Some e.step) at e.is in
    let same : Stop ≡ e.step = cc in
    subst (λ s. StepEdge anywhere s (codes "ba") 1 r 2) (sym same) e.edge

pub returns-clause-lists : goal.returns-clause-lists
returns-clause-lists c = record {
  first = (1, omega arith, omega arith, refl);
  last = (2, omega arith, omega arith, refl);
  before = λ h. no_three h.0 h.1 h.3;
  behind = λ h. no_nine h.0 h.2 h.3;
  in_list = (0, refl);
  not_in_list = λ h. no_four h.0 h.1;
  set = record {
    span = last_two;
    is = refl;
    flag = refl;
    same = λ q. (λ h. five_or_nine h.0 q h.1 h.2 h.3, λ h. listed h.0 q h.1);
  };
  other_flag = λ s. (let is = s.is in let flag = s.flag in let e : Some last_two ≡ Some s.span = is in let f : last_two ≡ s.span = cc in
      let g : false ≡ true = ap (λ v. v.goes_on) f ∙ flag in cc);
  too_few = λ s. (let e : Some last_two ≡ Some s.span = s.is in let f : last_two ≡ s.span = cc in
      let h = (s.same 9).0 (subst (λ v. Has states v 9) f (2, omega arith, omega arith, refl)) in five_alone h.0 h.1);
  too_many = λ s. (let e : Some middle ≡ Some s.span = s.is in let f : middle ≡ s.span = cc in
      let h = subst (λ v. Has states v 9) (sym f) ((s.same 9).1 (0, refl)) in no_nine h.0 h.2 h.3);
  no_number = λ s. (let is = s.is in cc);
}

pub returns-clause-anywhere : goal.returns-clause-anywhere
returns-clause-anywhere c = record {
  after_a_letter = record {
    count = 5;
    reach = (
      1,
      1,
      (
        2,
        1,
        (
          4,
          0,
          (
            3,
            0,
            (
              2,
              0,
              (refl, refl),
              record { step = _; is = refl; edge = (inl refl, refl) },
            ),
            record { step = _; is = refl; edge = (inl refl, refl) },
          ),
          record { step = _; is = refl; edge = (refl, inr (98, refl, refl, refl)) },
        ),
        record { step = _; is = refl; edge = (inr refl, refl) },
      ),
      record { step = _; is = refl; edge = (refl, inr (97, refl, refl, refl)) },
    );
  };
  after_a_newline = record {
    count = 5;
    reach = (
      1,
      1,
      (
        2,
        1,
        (
          5,
          0,
          (
            3,
            0,
            (
              2,
              0,
              (refl, refl),
              record { step = _; is = refl; edge = (inl refl, refl) },
            ),
            record { step = _; is = refl; edge = (inr refl, refl) },
          ),
          record { step = _; is = refl; edge = (refl, inr (10, refl, refl, refl)) },
        ),
        record { step = _; is = refl; edge = (inr refl, refl) },
      ),
      record { step = _; is = refl; edge = (refl, inr (97, refl, refl, refl)) },
    );
  };
  by_the_letter = λ none. none 1 0 refl (omega arith) (record { step = _; is = refl; edge = (refl, inr (97, refl, refl, refl)) });
  by_another = λ q r is low e. no_b q r is e;
  at_its_end = λ q r is low e. no_end q r is e;
  not_before = λ q r is low e. absurd (omega (arith, is, low));
}
