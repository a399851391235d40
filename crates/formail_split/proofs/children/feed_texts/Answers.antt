use Rattle.std.proofs.Common.{◌+◌, ◌∙◌, ap, arith, length, length-drop}
use Rattle.formail_split.proofs.FeedLemmas.{ran_none_yet, ran_more}
use Rattle.formail_split.proofs.children.feed_texts.Goals as goal

pub loop-text-init : goal.loop-text-init
loop-text-init g c = record {
  fed = ran_none_yet _ _ _ c.requires.empty;
  none = c.requires.none;
  space = omega (arith, ap length c.requires.empty, c.requires.space);
}

pub loop-text-preserved : goal.loop-text-preserved
loop-text-preserved g c = record {
  fed = rw c.push_reserved.ensures.items
      (ran_more _ _ _ _ _ _ _ _ _ _ c.loop-text-test.true (c.as_slice.ensures ∙ c.text-item.is) c.loop-text.invariant.fed c.feed_child-fate.ensures.runs);
  none = c.feed_child-fate.ensures.none c.loop-text.invariant.none;
  space = omega (
    arith,
    c.push_reserved.ensures.len,
    c.push_reserved.ensures.capacity,
    c.loop-text-test.true,
    length-drop c.loop-text.text-index c.args.texts.now,
    length-drop (c.loop-text.text-index + 1) c.args.texts.now,
    c.loop-text.invariant.space,
  );
}
