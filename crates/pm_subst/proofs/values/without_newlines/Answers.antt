use Rattle.std.proofs.Common.{◌∙◌, ap, sym, take, arith}
use Rattle.pm_subst.proofs.Trim.{trimmed-more-newline, trimmed-more-other}
use Rattle.pm_subst.proofs.values.without_newlines.Goals as goal
use Rattle.pm_subst.proofs.values.without_newlines.Goals.{then-byte-ne-NEWLINE, else-byte-ne-NEWLINE}

pub loop-i-preserved : goal.loop-i-preserved
loop-i-preserved c =
    elim c.if-byte-ne-NEWLINE.branch [
      | then-byte-ne-NEWLINE w ↦ record {
        within = omega arith;
        kept = trimmed-more-other c.args.output.now c.loop-i.i c.loop-i-test.true w.if-byte-ne-NEWLINE.true
            ∙ ap (λ k. take k c.args.output.now) (sym w.end-is);
      }
      | else-byte-ne-NEWLINE w ↦ record {
        within = omega arith;
        kept = trimmed-more-newline c.args.output.now c.loop-i.i c.loop-i-test.true w.if-byte-ne-NEWLINE.false
            ∙ c.loop-i.invariant.kept ∙ ap (λ k. take k c.args.output.now) (sym w.end-is);
      }
    ]
