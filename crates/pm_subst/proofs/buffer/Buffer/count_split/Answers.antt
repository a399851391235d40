use Rattle.std.proofs.Common.{◌∙◌, ap, sym, refl, not, arith}
use Rattle.pm_subst.proofs.Length.{growth_of}
use Rattle.pm_subst.proofs.Counted.{counted-more, begun-more, holds-split}
use Rattle.pm_subst.proofs.buffer.Buffer.count_split.Goals as goal

pub loop-byte-preserved : goal.loop-byte-preserved
loop-byte-preserved c = record {
  room = omega (arith, c.growth-length.ensures.bound, c.loop-byte.invariant.room);
  length_is = λ fields h. counted-more fields c.args.bytes.now c.loop-byte.byte-index c.loop-byte.length c.loop-byte.begun
      c.growth-length.result c.loop-byte-test.true (c.loop-byte.invariant.length_is fields h) (c.loop-byte.invariant.begun_is fields h)
      (c.growth-length.ensures.growth ∙ ap (growth_of c.loop-byte.begun) c.is_space-inside.ensures);
  begun_is = λ fields h. begun-more fields c.args.bytes.now c.loop-byte.byte-index c.loop-byte-test.true
      ∙ ap not (sym c.is_space-inside.ensures);
}

pub returns-clause-holds : goal.returns-clause-holds
returns-clause-holds c = λ fields h. holds-split c.args.self.now _ fields c.args.bytes.now c.loop-byte.byte-index c.loop-byte.length
    c.requires.splits c.requires.over h c.loop-byte-test.false (c.loop-byte.invariant.length_is fields h)
    (c.loop-byte.invariant.begun_is fields h) refl c.saturating_add-self.ensures
