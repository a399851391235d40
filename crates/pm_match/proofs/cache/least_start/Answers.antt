use Rattle.std.proofs.Common.{◌≡◌, ◌⊎◌, ◌-◌, ◌≤◌, subst, ⊎_elim, arith}
use Rattle.pm_match.specs.Backward.{ReachesExit}
use Rattle.pm_match.proofs.BackwardLemmas.{true_or_false}
use Rattle.pm_match.proofs.CacheLemmas.{got}
use Rattle.pm_match.proofs.cache.least_start.Goals as goal

pub loop-place-init : goal.loop-place-init
loop-place-init c = record {
  ready = c.last_number-at.ensures.ready;
  number = c.last_number-at.ensures.number;
  low = omega arith;
  within = omega arith;
  none = λ k low less. absurd (omega (arith, low, less));
}

pub loop-place-preserved : goal.loop-place-preserved
loop-place-preserved c =
    let inv = c.loop-place.invariant in
    let program = c.args.program.now in
    let ready = c.step-at.ensures.ready in
    let number = c.step-at.ensures.number in
    let in_use = number.0 in
    let sets = c.step-at.new.cache.sets in
    let set = got sets.items c.step-at.result (omega (arith, in_use, ready.spare, sets.ok.0)) in
    let bit = true_or_false c.has_state.result in
    record {
      ready = ready;
      number = number;
      low = ⊎_elim (λ yes. (let same = c.lower-least.ensures.yes yes in omega (arith, same))) (λ no. (let same = c.lower-least.ensures.no no in omega (arith, same, inv.low))) bit;
      within = ⊎_elim (λ yes. (let same = c.lower-least.ensures.yes yes in omega (arith, same, inv.low, inv.within))) (λ no. (let same = c.lower-least.ensures.no no in omega (arith, same, inv.within))) bit;
      none = λ k low less out. ⊎_elim
          (λ yes. (let same = c.lower-least.ensures.yes yes in absurd (omega (arith, same, low, less))))
          (λ no.
          let same = c.lower-least.ensures.no no in
          let choice : (k ≡ c.loop-place.place - 1) ⊎ (c.loop-place.place ≤ k) = grind (arith, low) in
          ⊎_elim
          (λ here. c.has_state.ensures.no no set.0 set.1 ((number.1 set.0 set.1 program.entry).1 (subst (λ i. ReachesExit program.steps.items c.args.area.now program.exit program.entry i) here out)))
          (λ later. inv.none k later (omega (arith, less, same)) out)
          choice)
          bit;
    }

pub returns-clause-none : goal.returns-clause-none
returns-clause-none c = λ k less out. c.loop-place.invariant.none k (omega (arith, c.loop-place-test.false)) less out
