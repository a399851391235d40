use Rattle.std.proofs.Common.{◌≡◌, ◌+◌, ◌∷◌, ◌∙◌, ap, arith, drop, length-drop, sum_by}
use Rattle.std.proofs.lemmas.List.Sums.{sum_by-cons}
use Rattle.formail_extra.specs.Room.{space_for}
use Rattle.formail_extra.proofs.AddingLemmas.{last_held, first_held, kept_more, next_mail}
use Rattle.formail_extra.proofs.adding.hold_all.Goals as goal

pub returns-in_default : goal.returns-in_default
returns-in_default g c =
    let ids : drop c.loop-id.id-index c.args.ids.now ≡ c.id-item.result ∷ drop (c.loop-id.id-index + 1) c.args.ids.now =
    next_mail c.args.ids.now c.loop-id.id-index c.id-item.result c.loop-id-test.true c.id-item.is in
    record {
      holds = c.loop-id.invariant.holds _ _ (last_held _ _ _ _ _ _ _ _ _ ids c.hold.ensures.holds c.in_default.not-Done);
      kept = λ done. absurd (c.in_default.not-Done done);
      child = c.hold.ensures.child ∙ c.loop-id.invariant.child;
    }

pub loop-id-preserved : goal.loop-id-preserved
loop-id-preserved g c =
    let ids : drop c.loop-id.id-index c.args.ids.now ≡ c.id-item.result ∷ drop (c.loop-id.id-index + 1) c.args.ids.now =
    next_mail c.args.ids.now c.loop-id.id-index c.id-item.result c.loop-id-test.true c.id-item.is in
    let behind = c.hold.ensures.bytes c.in-Done.is in
    let sum : sum_by space_for (drop c.loop-id.id-index c.args.ids.now) ≡ space_for c.id-item.result + sum_by space_for (drop (c.loop-id.id-index + 1) c.args.ids.now) =
    ap (sum_by space_for) ids ∙ sum_by-cons space_for c.id-item.result (drop (c.loop-id.id-index + 1) c.args.ids.now) in
    record {
      holds = λ written after all. c.loop-id.invariant.holds written after (first_held _ _ _ _ _ _ _ _ _ _ _ _ ids c.hold.ensures.holds c.in-Done.is behind all);
      kept = kept_more _ _ _ _ _ _ _ _ _ c.push_reserved.ensures.items c.keeps-keep.ensures behind ids ∙ c.loop-id.invariant.kept;
      space = omega (arith, sum, c.hold.ensures.few, c.hold.ensures.space, c.loop-id.invariant.space);
      places = omega (arith, c.push_reserved.ensures.len, c.push_reserved.ensures.capacity, c.loop-id-test.true, length-drop c.loop-id.id-index c.args.ids.now, length-drop (c.loop-id.id-index + 1) c.args.ids.now, c.loop-id.invariant.places);
      child = c.hold.ensures.child ∙ c.loop-id.invariant.child;
    }
