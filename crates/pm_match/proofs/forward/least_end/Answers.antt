use Rattle.std.proofs.Common.{◌≡◌, ◌⊎◌, ◌<◌, ⊎_elim, arith}
use Rattle.pm_match.proofs.FindLemmas.{reach_after}
use Rattle.pm_match.proofs.CacheLemmas.{got}
use Rattle.pm_match.proofs.ForwardLemmas.{end_some, end_none, unmet}
use Rattle.pm_match.proofs.forward.least_end.Goals as goal

pub loop-start-init : goal.loop-start-init
loop-start-init c = record {
  after = omega arith;
  within = omega (arith, c.requires.start);
  ready = c.first_number-at.ensures.ready;
  number = c.first_number-at.ensures.number;
  none = λ j less to.
      let low = reach_after c.args.program.now.steps.items c.args.area.now c.args.program.now.entry c.args.start to.count c.args.program.now.exit j to.reach in
      omega (arith, less, low);
}

pub loop-start-preserved : goal.loop-start-preserved
loop-start-preserved c =
    let inv = c.loop-start.invariant in
    let cache = c.loop-start.forward.cache in
    let low = inv.number.0 in
    let set = got cache.sets.items c.loop-start.at (omega (arith, low, inv.ready.cache.spare, cache.sets.ok.0)) in
    record {
      after = omega (arith, inv.after);
      within = omega arith;
      ready = c.next_number-at.ensures.ready;
      number = c.next_number-at.ensures.number c.args.start inv.number;
      none = λ j less to.
          let choice : (j < c.loop-start.place) ⊎ (j ≡ c.loop-start.place) = grind (arith, less) in
          ⊎_elim
          (λ before. inv.none j before to)
          (λ now. unmet c.args.program.now.steps.items c.args.area.now c.args.program.now.entry c.args.start c.args.program.now.exit j c.loop-start.place set.0.set.items now
          (inv.number.1 set.0 set.1) (c.has_state.ensures.no c.loop-start-test.true set.0 set.1) to)
          choice;
    }

pub returns-then-place-area-clause-least : goal.returns-then-place-area-clause-least
returns-then-place-area-clause-least c = λ e fold is.
    let inv = c.loop-start.invariant in
    let cache = c.loop-start.forward.cache in
    let low = inv.number.0 in
    let set = got cache.sets.items c.loop-start.at (omega (arith, low, inv.ready.cache.spare, cache.sets.ok.0)) in
    end_none c.args.program.now e fold c.args.area.now c.args.start is c.loop-start.place set.0.set.items
    (inv.number.1 set.0 set.1) inv.none (c.has_state.ensures.no c.loop-start-test.true set.0 set.1) (omega arith)

pub returns-clause-least : goal.returns-clause-least
returns-clause-least c = λ e fold is.
    let inv = c.loop-start.invariant in
    let set = c.has_state.ensures.yes c.loop-start-test.false in
    end_some c.args.program.now e fold c.args.area.now c.args.start is c.loop-start.place set.0.set.items
    (inv.number.1 set.0 set.1) inv.none set.2 inv.within
