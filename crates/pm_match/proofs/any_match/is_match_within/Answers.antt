use Rattle.std.proofs.Common.{◌≡◌, ◌+◌, ◌^◌, ◌<◌, length, ◌∙◌, subst, true, false, None, arith}
use Rattle.pm_match.specs.Finding.{IsArrived, IsBestBefore, LeftSeed, RightSeed}
use Rattle.pm_match.proofs.FindLemmas.{arrived_first, left_late, right_late}
use Rattle.pm_match.proofs.BestLemmas.{best_none, ends_here, found_of}
use Rattle.pm_match.proofs.AnyLemmas.{none_more, some_first, none_fits, some_fits}
use Rattle.pm_match.specs.Starts.{GoesOn}
use Rattle.pm_match.proofs.SkipLemmas.{all_bytes, on_places, on_left, on_right, on_best, on_none, first_from}
use Rattle.pm_match.proofs.any_match.is_match_within.Goals as goal

pub loop-place-init : goal.loop-place-init
loop-place-init c = record {
  room = record {
    left = c.clear.ensures.len ∙ c.requires.room.left;
    left_next = c.requires.room.left_next;
    right = c.clear-2.ensures.len ∙ c.requires.room.right;
    right_next = c.requires.room.right_next;
  };
  after = omega arith;
  ordered = omega arith;
  within = c.requires.from;
  left_arrived = arrived_first c.args.automata.now.left.steps.items c.args.area.now c.args.automata.now.left.entry (LeftSeed c.args.automata.now.left.steps.items c.args.area.now c.args.automata.now.left.entry c.args.automata.now.left.exit c.args.from) c.args.from
      (λ k w h. left_late c.args.automata.now.left.steps.items c.args.area.now c.args.automata.now.left.entry c.args.automata.now.left.exit c.args.from k w h) c.clear.new.labels.of.items c.clear.ensures.none;
  right_arrived = arrived_first c.args.automata.now.right.steps.items c.args.area.now c.args.automata.now.right.entry
      (RightSeed c.args.automata.now.left.steps.items c.args.area.now c.args.automata.now.left.entry c.args.automata.now.left.exit c.args.from) c.args.from
      (λ k w h. right_late c.args.automata.now.left.steps.items c.args.area.now c.args.automata.now.left.entry c.args.automata.now.left.exit c.args.from k w h) c.clear-2.new.labels.of.items c.clear-2.ensures.none;
  best = λ fold x y a d. best_none fold c.args.automata.now.left.steps.items c.args.area.now c.args.automata.now.left.entry c.args.automata.now.left.exit c.args.from x y
      c.args.automata.now.right.steps.items c.args.automata.now.right.entry c.args.automata.now.right.exit a.built d.built;
  none = λ fold x y a d s k j m. m.after;
}

pub loop-place-preserved : goal.loop-place-preserved
loop-place-preserved c =
    let p = c.args.automata.now.left.steps.items in
    let q = c.args.automata.now.right.steps.items in
    let area = c.args.area.now in
    let base = c.loop-place.base in
    let i = c.loop-place.place in
    let fits : length area < 2 ^ 64 = omega arith in
    let xs = c.hand_on.new.room.left.of.items in
    let ys = c.hand_on.new.room.right.of.items in
    let r = c.go_on-on.result in
    let on : GoesOn c.args.automata.now.starts None xs ys area base (i + 1) r = c.go_on-on.ensures in
    let left = c.hand_on.ensures.left base c.visit-met.ensures.left_held in
    let right = c.hand_on.ensures.right base c.visit-met.ensures.right_held in
    let no_label = c.is_met.ensures.none c.if-is_met.false in
    let places = on_places p q area c.args.automata.now.left.entry c.args.automata.now.left.exit c.args.automata.now.right.entry c.args.automata.now.right.exit base i c.args.automata.now.starts None xs ys r on
    (omega arith) (omega arith) in
    record {
      room = c.hand_on.ensures.room;
      after = omega (arith, places.0, c.loop-place.invariant.after);
      ordered = places.1;
      within = places.2;
      left_arrived = on_left p q area c.args.automata.now.left.entry c.args.automata.now.left.exit c.args.automata.now.right.entry c.args.automata.now.right.exit base i c.args.automata.now.starts None xs ys r on left;
      right_arrived = on_right p q area c.args.automata.now.left.entry c.args.automata.now.left.exit c.args.automata.now.right.entry c.args.automata.now.right.exit base i c.args.automata.now.starts None xs ys r on right;
      best = λ fold x y a d.
          on_best p q area c.args.automata.now.left.entry c.args.automata.now.left.exit c.args.automata.now.right.entry c.args.automata.now.right.exit base i c.args.automata.now.starts None xs ys r on fold x y a.built d.built
          (none_more fold x y area base i c.visit-met.result no_label (c.loop-place.invariant.best fold x y a d)
          (ends_here fold p q area x y c.args.automata.now.left.entry c.args.automata.now.left.exit c.args.automata.now.right.entry c.args.automata.now.right.exit
          base i c.visit-met.new.room.right.of.items c.visit-met.ensures.right_held (omega arith) fits a.built a.stop d.built d.stop c.visit-met.result c.visit-met.ensures.met (none_fits c.visit-met.result no_label)));
      none = λ fold x y a d.
          on_none p q area c.args.automata.now.left.entry c.args.automata.now.left.exit c.args.automata.now.right.entry c.args.automata.now.right.exit base i c.args.automata.now.starts None xs ys r on fold x y a.built d.built
          c.args.from c.loop-place.invariant.after (c.loop-place.invariant.none fold x y a d) left right c.requires.automata.starts
          (none_more fold x y area base i c.visit-met.result no_label (c.loop-place.invariant.best fold x y a d)
          (ends_here fold p q area x y c.args.automata.now.left.entry c.args.automata.now.left.exit c.args.automata.now.right.entry c.args.automata.now.right.exit
          base i c.visit-met.new.room.right.of.items c.visit-met.ensures.right_held (omega arith) fits a.built a.stop d.built d.stop c.visit-met.result c.visit-met.ensures.met (none_fits c.visit-met.result no_label)));
    }

pub visit-met-requires-2-clause-left_arrived : goal.visit-met-requires-2-clause-left_arrived
visit-met-requires-2-clause-left_arrived c =
    let same : c.loop-place.place ≡ length c.args.area.now = omega arith in
    subst (λ k. IsArrived c.args.automata.now.left.steps.items c.args.area.now c.args.automata.now.left.entry (LeftSeed c.args.automata.now.left.steps.items c.args.area.now c.args.automata.now.left.entry c.args.automata.now.left.exit c.loop-place.base) k c.loop-place.room.left.of.items) same c.loop-place.invariant.left_arrived

pub visit-met-requires-2-clause-right_arrived : goal.visit-met-requires-2-clause-right_arrived
visit-met-requires-2-clause-right_arrived c =
    let same : c.loop-place.place ≡ length c.args.area.now = omega arith in
    subst (λ k. IsArrived c.args.automata.now.right.steps.items c.args.area.now c.args.automata.now.right.entry
    (RightSeed c.args.automata.now.left.steps.items c.args.area.now c.args.automata.now.left.entry c.args.automata.now.left.exit c.loop-place.base) k c.loop-place.room.right.of.items) same c.loop-place.invariant.right_arrived

pub returns-then-is_met-clause-some : goal.returns-then-is_met-clause-some
returns-then-is_met-clause-some c = λ t fold x y a d.
    let fits : length c.args.area.now < 2 ^ 64 = omega arith in
    let came = c.is_met.ensures.some c.if-is_met.true in
    some_first fold x y c.args.area.now c.args.from c.loop-place.base c.loop-place.place c.visit-met.result came.0 came.1 c.loop-place.invariant.after
    (ends_here fold c.args.automata.now.left.steps.items c.args.automata.now.right.steps.items c.args.area.now x y c.args.automata.now.left.entry c.args.automata.now.left.exit c.args.automata.now.right.entry c.args.automata.now.right.exit
    c.loop-place.base c.loop-place.place c.visit-met.new.room.right.of.items c.visit-met.ensures.right_held (omega arith) fits a.built a.stop d.built d.stop c.visit-met.result c.visit-met.ensures.met
    (some_fits c.visit-met.result came.0 came.1 came.2))

pub returns-clause-some : goal.returns-clause-some
returns-clause-some c = λ t fold x y a d.
    let fits : length c.args.area.now < 2 ^ 64 = omega arith in
    let same : c.is_met-2.result ≡ true = cc in
    let came = c.is_met-2.ensures.some same in
    some_first fold x y c.args.area.now c.args.from c.loop-place.base (length c.args.area.now) c.visit-met-2.result came.0 came.1 c.loop-place.invariant.after
    (ends_here fold c.args.automata.now.left.steps.items c.args.automata.now.right.steps.items c.args.area.now x y c.args.automata.now.left.entry c.args.automata.now.left.exit c.args.automata.now.right.entry c.args.automata.now.right.exit
    c.loop-place.base (length c.args.area.now) c.visit-met-2.new.room.right.of.items c.visit-met-2.ensures.right_held (omega arith) fits a.built a.stop d.built d.stop c.visit-met-2.result c.visit-met-2.ensures.met
    (some_fits c.visit-met-2.result came.0 came.1 came.2))

pub returns-clause-none : goal.returns-clause-none
returns-clause-none c = λ t fold x y a d.
    let fits : length c.args.area.now < 2 ^ 64 = omega arith in
    let same : c.loop-place.place ≡ length c.args.area.now = omega arith in
    let off : c.is_met-2.result ≡ false = cc in
    let no_label = c.is_met-2.ensures.none off in
    first_from fold x y c.args.area.now c.args.from c.loop-place.base c.loop-place.invariant.after (c.loop-place.invariant.none fold x y a d) None
    (found_of fold x y c.args.area.now c.loop-place.base fits None
    (none_more fold x y c.args.area.now c.loop-place.base (length c.args.area.now) c.visit-met-2.result no_label
    (subst (λ k. IsBestBefore fold x y c.args.area.now c.loop-place.base k None) same (c.loop-place.invariant.best fold x y a d))
    (ends_here fold c.args.automata.now.left.steps.items c.args.automata.now.right.steps.items c.args.area.now x y c.args.automata.now.left.entry c.args.automata.now.left.exit c.args.automata.now.right.entry c.args.automata.now.right.exit
    c.loop-place.base (length c.args.area.now) c.visit-met-2.new.room.right.of.items c.visit-met-2.ensures.right_held (omega arith) fits a.built a.stop d.built d.stop c.visit-met-2.result c.visit-met-2.ensures.met (none_fits c.visit-met-2.result no_label))))

pub loop-place-smaller : goal.loop-place-smaller
loop-place-smaller c =
    let p = c.args.automata.now.left.steps.items in
    let q = c.args.automata.now.right.steps.items in
    let places = on_places p q c.args.area.now c.args.automata.now.left.entry c.args.automata.now.left.exit c.args.automata.now.right.entry c.args.automata.now.right.exit c.loop-place.base c.loop-place.place
    c.args.automata.now.starts None c.hand_on.new.room.left.of.items c.hand_on.new.room.right.of.items c.go_on-on.result c.go_on-on.ensures
    (omega arith) (omega arith) in
    let further = places.3 in omega (arith, further)

pub go_on-on-requires-clause-tables : goal.go_on-on-requires-clause-tables
go_on-on-requires-clause-tables c = all_bytes c.args.automata.now.left.steps.items c.args.automata.now.left.entry c.args.automata.now.left.exit c.args.automata.now.starts c.requires.automata.starts
