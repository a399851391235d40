use Rattle.std.proofs.Common.{◌∙◌, ap, sym, take, arith}
use Rattle.pm_recipe.proofs.Trim.{more-blank, more-other}
use Rattle.pm_recipe.proofs.joins.without_last_blanks.Goals as goal
use Rattle.pm_recipe.proofs.joins.without_last_blanks.Goals.{then-not-is_blank, else-not-is_blank}

pub loop-i-preserved : goal.loop-i-preserved
loop-i-preserved c =
    elim c.if-not-is_blank.branch [
      | then-not-is_blank w ↦ record {
        within = omega arith;
        kept = more-other c.args.text.now c.loop-i.i c.loop-i-test.true (sym c.is_blank.ensures ∙ w.if-not-is_blank.true)
            ∙ ap (λ k. take k c.args.text.now) (sym w.end-is);
      }
      | else-not-is_blank w ↦ record {
        within = omega arith;
        kept = more-blank c.args.text.now c.loop-i.i c.loop-i-test.true (sym c.is_blank.ensures ∙ w.if-not-is_blank.false)
            ∙ c.loop-i.invariant.kept ∙ ap (λ k. take k c.args.text.now) (sym w.end-is);
      }
    ]
