use Rattle.std.proofs.Common.{◌≡◌, ◌⊎◌, ◌+◌, ◌<◌, Some, ap, length, sym, ◌∙◌, subst, ⊎_elim, arith}
use Rattle.std.specs.Prelude.{slice_get}
use Rattle.std.proofs.lemmas.Option.{slice_get_read}
use Rattle.pm_match.specs.Automaton.{Edge}
use Rattle.pm_match.specs.Labels.{IsClosed, Crosses}
use Rattle.pm_match.proofs.CloseLemmas.{closed_none, or_false}
use Rattle.pm_match.proofs.anywhere.cross.Goals as goal

pub loop-index-init : goal.loop-index-init
loop-index-init c = record {
  low = omega arith;
  sound = λ r v b. absurd (c.clear.ensures.none r v b);
  reached = λ k q r v low lt is e. absurd (omega (arith, low, lt));
  none = λ no k q r low lt is before e. absurd (omega (arith, low, lt));
  len = c.clear.ensures.len;
  closed = closed_none c.args.program.now.steps.items c.args.area.now (c.args.place + 1) c.clear.new.labels.of.items c.clear.ensures.none;
}

pub cross_from-is_crossed-requires-clause-state : goal.cross_from-is_crossed-requires-clause-state
cross_from-is_crossed-requires-clause-state c =
    let states = c.args.states.now in
    let is = slice_get_read states.items _ _ _ states.ok.0 (omega (arith, c.loop-index-test.true, c.requires.end)) c.index-state.ensures in
    let lt = c.requires.states c.index-state.result.now (c.loop-index.index, c.loop-index.invariant.low, c.loop-index-test.true, is) in
    omega (arith, lt, ap length c.deref.ensures.value)

pub cross_from-is_crossed-requires-clause-closed : goal.cross_from-is_crossed-requires-clause-closed
cross_from-is_crossed-requires-clause-closed c =
    subst (λ x. IsClosed x c.args.area.now (c.args.place + 1) c.loop-index.next.of.items) (sym c.deref.ensures.value) c.loop-index.invariant.closed

pub loop-index-preserved : goal.loop-index-preserved
loop-index-preserved c =
    let states = c.args.states.now in
    let i = c.loop-index.index in
    let inv = c.loop-index.invariant in
    let step = c.cross_from-is_crossed.ensures in
    let entry = c.args.program.now.entry in
    let area = c.args.area.now in
    let place = c.args.place in
    let value = c.deref.ensures.value in
    let is = slice_get_read states.items _ _ _ states.ok.0 (omega (arith, c.loop-index-test.true, c.requires.end)) c.index-state.ensures in
    record {
      low = omega (arith, inv.low);
      sound = λ r v b. ⊎_elim (λ old. inv.sound r v old) (λ new. (
        c.index-state.result.now,
        (i, inv.low, c.loop-index-test.true, is),
        subst (λ x. Crosses x area place c.index-state.result.now r) value new,
      )) (step.sound r v b);
      reached = λ k q r v low lt at e.
          let choice : (k < i) ⊎ (k ≡ i) = grind (arith, lt) in
          ⊎_elim
          (λ old. step.kept r v (inv.reached k q r v low old at e))
          (λ same.
          let f : Some c.index-state.result.now ≡ Some q = sym is ∙ subst (λ x. slice_get states.items x ≡ Some q) same at in
          let g : q ≡ c.index-state.result.now = cc in
          step.reached r v (subst (λ x. Edge x area c.index-state.result.now place r (place + 1)) (sym value)
          (subst (λ x. Edge c.args.program.now.steps.items area x place r (place + 1)) g e)))
          choice;
      none = λ flag k q r low lt at before e.
          let both = or_false c.loop-index.goes_on c.is_inner-is_more.result flag in
          let choice : (k < i) ⊎ (k ≡ i) = grind (arith, lt) in
          ⊎_elim
          (λ old. inv.none both.0 k q r low old at before e)
          (λ same.
          let f : Some c.index-state.result.now ≡ Some q = sym is ∙ subst (λ x. slice_get states.items x ≡ Some q) same at in
          let g : q ≡ c.index-state.result.now = cc in
          step.none (c.is_inner-is_more.ensures both.1 (subst (λ x. x < entry) g before)) r
          (subst (λ x. Edge x area c.index-state.result.now place r (place + 1)) (sym value)
          (subst (λ x. Edge c.args.program.now.steps.items area x place r (place + 1)) g e)))
          choice;
      len = step.len ∙ inv.len;
      closed = subst (λ x. IsClosed x area (place + 1) c.cross_from-is_crossed.new.next.of.items) value step.closed;
    }

pub returns-clause-reached : goal.returns-clause-reached
returns-clause-reached c = λ q r v h e.
    let high = h.2 in
    c.loop-index.invariant.reached h.0 q r v h.1 (omega (arith, high, c.loop-index-test.false)) h.3 e

pub returns-clause-none : goal.returns-clause-none
returns-clause-none c = λ flag q r h before e.
    let high = h.2 in
    c.loop-index.invariant.none flag h.0 q r h.1 (omega (arith, high, c.loop-index-test.false)) h.3 before e
