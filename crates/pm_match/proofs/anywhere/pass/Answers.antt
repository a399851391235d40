use Rattle.std.proofs.Common.{◌≡◌, ◌⊎◌, ◌+◌, ◌≤◌, subst, ⊎_elim, arith}
use Rattle.std.proofs.lemmas.Option.{slice_get_read, slice_get_within}
use Rattle.pm_match.specs.Forward.{IsReachedFrom}
use Rattle.pm_match.proofs.BackwardLemmas.{true_or_false}
use Rattle.pm_match.proofs.ListLemmas.{before_base, before_end, cut_at}
use Rattle.pm_match.proofs.anywhere.pass.Goals as goal

pub loop-place-init : goal.loop-place-init
loop-place-init c =
    let p = c.args.program.now.steps.items in
    let first = c.requires.first in
    record {
      within = omega arith;
      low = omega arith;
      ready = c.requires.ready;
      at = first;
      none = λ j le to.
          let here : j ≡ 0 = omega (arith, le) in
          c.requires.ready.met.open_sets c.args.first first.0 first.1
          (first.2.whole c.args.program.now.exit (subst (λ k. IsReachedFrom p c.args.area.now c.args.program.now.entry 0 c.args.program.now.exit k) here to));
      base = λ g em s n q j lt le r. omega (arith, lt);
    }

pub loop-place-preserved : goal.loop-place-preserved
loop-place-preserved c =
    let g = c.args.program.now in
    let p = g.steps.items in
    let area = c.args.area.now in
    let place = c.loop-place.place in
    let inv = c.loop-place.invariant in
    let sets = c.next_number.new.sets in
    let after = c.in-Some.ensures.number in
    let ready = c.next_number.ensures.ready in
    let at = after.at in
    let room = slice_get_within sets.spans.items c.in-Some.to at.0 at.1 in
    let is = slice_get_read sets.spans.items _ _ _ sets.spans.ok.0 (omega (arith, room, sets.spans.ok.0)) c.index.ensures in
    record {
      within = omega (arith, c.loop-place-test.true);
      low = ⊎_elim
          (λ on. let e = c.base_at-base.ensures.on on in omega (arith, e, inv.low))
          (λ off. let e = c.base_at-base.ensures.off off in omega (arith, e))
          (true_or_false c.index.result.now.goes_on);
      ready = ready;
      at = at;
      none = λ j le to.
          let choice : (j ≤ place) ⊎ (j ≡ place + 1) = grind (arith, le) in
          ⊎_elim
          (λ old. inv.none j old to)
          (λ now. ready.met.open_sets c.in-Some.to at.0 at.1
          (at.2.whole g.exit (subst (λ k. IsReachedFrom p area g.entry 0 g.exit k) now to)))
          choice;
      base = λ other em s n q j lt le r. ⊎_elim
          (λ on. let e = c.base_at-base.ensures.on on in inv.base other em s n q j (omega (arith, e, lt)) (omega (arith, e, le)) r)
          (λ off. let e = c.base_at-base.ensures.off off in
          cut_at other g area em place s n q j inv.within (after.none c.index.result.now is off) (omega (arith, e, lt)) (omega (arith, e, le)) r)
          (true_or_false c.index.result.now.goes_on);
    }

pub returns-in-None-clause-none : goal.returns-in-None-clause-none
returns-in-None-clause-none c = λ g em.
    let inv = c.loop-place.invariant in
    before_base g c.args.program.now c.args.area.now em c.loop-place.base c.loop-place.place inv.low inv.within inv.none (inv.base g em)

pub returns-clause-none : goal.returns-clause-none
returns-clause-none c = λ g em.
    let inv = c.loop-place.invariant in
    before_end g c.args.program.now c.args.area.now em _ c.loop-place.place (omega (arith, c.loop-place-test.false)) inv.none
