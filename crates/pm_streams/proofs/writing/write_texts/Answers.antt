use Rattle.std.proofs.Common.{refl}
use Rattle.pm_streams.proofs.WriteLemmas.{gathers, stops_at, stops_texts, short_texts}
use Rattle.pm_streams.proofs.writing.write_texts.Goals as goal

pub returns-in-None : goal.returns-in-None
returns-in-None g c =
    stops_texts c.args.texts.now _ _
    (stops_at c.args.texts.now c.loop-text.text-index c.text-item.result _ _ _ _ c.loop-text-test.true c.text-item.is c.loop-text.invariant.takes
    (rw c.as_slice.ensures at (c.in-None.ensures.none refl)))

pub loop-text-preserved : goal.loop-text-preserved
loop-text-preserved g c = record {
  within = c.in-Some.ensures.within;
  takes = gathers c.args.texts.now c.loop-text.text-index c.text-item.result _ _ _ _ _ c.loop-text-test.true c.text-item.is c.loop-text.invariant.takes
      (rw c.as_slice.ensures at c.in-Some.ensures.some);
}

pub returns-in-Short : goal.returns-in-Short
returns-in-Short g c =
    short_texts c.args.texts.now c.loop-text.text-index _ _ _ _ _ c.loop-text-test.false c.loop-text.invariant.takes c.in-Short.ensures
