use Rattle.std.proofs.Common.{◌∙◌}
use Rattle.formail_split.proofs.FeedLemmas.{feeds_none, feeds_more}
use Rattle.formail_split.proofs.feeding.feed_each.Goals as goal

pub loop-text-init : goal.loop-text-init
loop-text-init g c = record { fed = feeds_none _ _; none = c.requires }

pub loop-text-preserved : goal.loop-text-preserved
loop-text-preserved g c = record {
  fed = rw c.worse_of-worst.ensures
      (feeds_more _ _ _ _ _ _ _ _ _ _ _ c.loop-text-test.true (c.as_slice-bytes.ensures ∙ c.text-item.is) c.loop-text.invariant.fed c.feed_child-fate.ensures.runs c.outcome_of.ensures);
  none = c.feed_child-fate.ensures.none c.loop-text.invariant.none;
}
