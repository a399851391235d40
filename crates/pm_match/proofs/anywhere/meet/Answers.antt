use Rattle.std.proofs.Common.{◌≡◌, ◌+◌, ◌∙◌, sym, subst, arith}
use Rattle.std.specs.Prelude.{Some}
use Rattle.std.proofs.lemmas.Option.{slice_get_read}
use Rattle.pm_match.specs.Lists.{AreBounded, Has, IsAfter, IsLink}
use Rattle.pm_match.proofs.ForwardLemmas.{labels_after}
use Rattle.pm_match.proofs.ListLemmas.{within_spans, read_span, states_below, labels_list, listed_label, set_after, set_link, some_map}
use Rattle.pm_match.proofs.anywhere.meet.Goals as goal

pub index-span-requires : goal.index-span-requires
index-span-requires c =
    let sets = c.args.sets.now in
    omega (arith, within_spans c.args.program.now.steps.items c.args.area.now c.args.program.now.entry c.args.place sets.spans.items sets.states.items c.args.at c.requires.at, sets.spans.ok.0)

pub cross-goes_on-requires-clause-end : goal.cross-goes_on-requires-clause-end
cross-goes_on-requires-clause-end c =
    let sets = c.args.sets.now in
    let at = within_spans c.args.program.now.steps.items c.args.area.now c.args.program.now.entry c.args.place sets.spans.items sets.states.items c.args.at c.requires.at in
    let is = slice_get_read sets.spans.items _ _ _ sets.spans.ok.0 (omega (arith, at, sets.spans.ok.0)) c.index-span.ensures in
    let o = c.requires.ready.bounded.ordered c.args.at _ is in
    omega (arith, o.1, sets.states.ok.0)

pub cross-goes_on-requires-clause-states : goal.cross-goes_on-requires-clause-states
cross-goes_on-requires-clause-states c =
    let sets = c.args.sets.now in
    let p = c.args.program.now.steps.items in
    let entry = c.args.program.now.entry in
    let area = c.args.area.now in
    let at = within_spans p area entry c.args.place sets.spans.items sets.states.items c.args.at c.requires.at in
    let is = slice_get_read sets.spans.items _ _ _ sets.spans.ok.0 (omega (arith, at, sets.spans.ok.0)) c.index-span.ensures in
    let was = read_span p area entry c.args.place sets.spans.items sets.states.items c.args.at _ c.requires.at is in
    states_below p area entry c.args.place _ c.requires.program.range c.requires.program.entry was

pub returns-in-Some-clause-number : goal.returns-in-Some-clause-number
returns-in-Some-clause-number c =
    let sets = c.args.sets.now in
    let p = c.args.program.now.steps.items in
    let entry = c.args.program.now.entry in
    let area = c.args.area.now in
    let place = c.args.place in
    let at = within_spans p area entry place sets.spans.items sets.states.items c.args.at c.requires.at in
    let is = slice_get_read sets.spans.items _ _ _ sets.spans.ok.0 (omega (arith, at, sets.spans.ok.0)) c.index-span.ensures in
    let was = read_span p area entry place sets.spans.items sets.states.items c.args.at _ c.requires.at is in
    let next = c.cross-goes_on.new.next in
    let after = labels_after p area entry place (Has sets.states.items c.index-span.result.now) next.of.items was
    c.cross-goes_on.ensures.sound c.cross-goes_on.ensures.reached c.cross-goes_on.ensures.closed in
    let now = labels_list p area entry (place + 1) next.of.items next.states.items next.listed next.held after in
    let to = set_after p area entry place sets.states.items c.index-span.result.now was next.states.items c.cross-goes_on.result now c.cross-goes_on.ensures.none
    c.number_of.new.sets.spans.items c.number_of.new.sets.states.items c.in-Some.to c.in-Some.ensures.number in
    subst (λ x. IsAfter p area entry place x.items c.link_inside.new.sets.states.items c.in-Some.to) (sym c.link_inside.ensures.spans)
    (subst (λ y. IsAfter p area entry place c.number_of.new.sets.spans.items y.items c.in-Some.to) (sym c.link_inside.ensures.states) to)

pub returns-in-None-clause-number : goal.returns-in-None-clause-number
returns-in-None-clause-number c =
    let sets = c.args.sets.now in
    let p = c.args.program.now.steps.items in
    let entry = c.args.program.now.entry in
    let area = c.args.area.now in
    let place = c.args.place in
    let at = within_spans p area entry place sets.spans.items sets.states.items c.args.at c.requires.at in
    let is = slice_get_read sets.spans.items _ _ _ sets.spans.ok.0 (omega (arith, at, sets.spans.ok.0)) c.index-span.ensures in
    let was = read_span p area entry place sets.spans.items sets.states.items c.args.at _ c.requires.at is in
    let next = c.cross-goes_on.new.next in
    let after = labels_after p area entry place (Has sets.states.items c.index-span.result.now) next.of.items was
    c.cross-goes_on.ensures.sound c.cross-goes_on.ensures.reached c.cross-goes_on.ensures.closed in
    let now = labels_list p area entry (place + 1) next.of.items next.states.items next.listed next.held after in
    some_map c.number_of-in-None.result _ _
    (λ v it. set_after p area entry place sets.states.items c.index-span.result.now was next.states.items c.cross-goes_on.result now c.cross-goes_on.ensures.none
    c.number_of-in-None.new.sets.spans.items c.number_of-in-None.new.sets.states.items v it)
    c.number_of-in-None.ensures.number

pub returns-in-Some-clause-ready : goal.returns-in-Some-clause-ready
returns-in-Some-clause-ready c =
    let sets = c.args.sets.now in
    let p = c.args.program.now.steps.items in
    let entry = c.args.program.now.entry in
    let exit = c.args.program.now.exit in
    let area = c.args.area.now in
    let place = c.args.place in
    let at = within_spans p area entry place sets.spans.items sets.states.items c.args.at c.requires.at in
    let is = slice_get_read sets.spans.items _ _ _ sets.spans.ok.0 (omega (arith, at, sets.spans.ok.0)) c.index-span.ensures in
    let was = read_span p area entry place sets.spans.items sets.states.items c.args.at _ c.requires.at is in
    let next = c.cross-goes_on.new.next in
    let after = labels_after p area entry place (Has sets.states.items c.index-span.result.now) next.of.items was
    c.cross-goes_on.ensures.sound c.cross-goes_on.ensures.reached c.cross-goes_on.ensures.closed in
    let now = labels_list p area entry (place + 1) next.of.items next.states.items next.listed next.held after in
    let kept = c.number_of.ensures.kept c.args.at c.index-span.result.now is in
    let none = listed_label next.of.items next.states.items next.held exit (c.is_reached.ensures.no c.if-is_reached.false) in
    record {
      bounded = subst (λ x. AreBounded x.items c.link_inside.new.sets.states.items) (sym c.link_inside.ensures.spans)
          (subst (λ y. AreBounded c.number_of.new.sets.spans.items y.items) (sym c.link_inside.ensures.states) c.number_of.ensures.bounded);
      met = c.link_inside.ensures.met p entry exit (c.number_of.ensures.met p entry exit c.requires.ready.met none)
          (λ b s r is_b lt is_s is_r.
          let e : Some c.index-span.result.now ≡ Some s = sym kept.0 ∙ is_s in
          let same : c.index-span.result.now ≡ s = cc in
          subst (λ x. IsLink p entry b c.number_of.new.sets.states.items x r) same
          (set_link p area entry place sets.states.items c.index-span.result.now was next.states.items c.cross-goes_on.result now c.cross-goes_on.ensures.none
          c.number_of.new.sets.spans.items c.number_of.new.sets.states.items c.in-Some.to c.in-Some.ensures.number kept.1 b is_b lt r is_r));
      fits = c.cross-goes_on.ensures.len ∙ c.requires.ready.fits;
    }

pub returns-in-None-clause-ready : goal.returns-in-None-clause-ready
returns-in-None-clause-ready c =
    let p = c.args.program.now.steps.items in
    let entry = c.args.program.now.entry in
    let exit = c.args.program.now.exit in
    let next = c.cross-goes_on.new.next in
    record {
      bounded = c.number_of-in-None.ensures.bounded;
      met = c.number_of-in-None.ensures.met p entry exit (c.restart.ensures.met p entry exit)
          (listed_label next.of.items next.states.items next.held exit (c.is_reached.ensures.no c.if-is_reached.false));
      fits = c.cross-goes_on.ensures.len ∙ c.requires.ready.fits;
    }
