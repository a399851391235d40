use Rattle.std.proofs.Common.{◌≡◌, ◌-◌, ◌++◌, List, ap, ◌∙◌, arith, subst}
use Rattle.pm_recipe.specs.Item.{Item}
use Rattle.pm_recipe.specs.Build.{ahead_of}
use Rattle.pm_recipe.specs.Builder.{whole, built_of}
use Rattle.pm_recipe.specs.Ends.{ends, missed}
use Rattle.pm_recipe.proofs.Cut.{ends-more}
use Rattle.pm_recipe.proofs.reader.finish.Goals as goal

pub loop-open-preserved : goal.loop-open-preserved
loop-open-preserved c = record {
  levels = omega (arith, c.in_ok-close.ensures.depth, c.loop-open.invariant.levels);
  goes_on = λ items. c.in_ok-close.ensures.built (ahead_of (ends (c.loop-open.open - 1) ++ items))
      ∙ ap (λ is. whole (built_of c.loop-open.builder) is) (ends-more c.loop-open.open items (omega arith))
      ∙ c.loop-open.invariant.goes_on items;
}

pub returns : goal.returns
returns c = λ blocks s. c.in_ok-statements.ensures
    ∙ c.in_ok-tell_missing.ensures.whole blocks s
    ∙ ended (missed blocks.lines blocks.stopped)
  where
    none : c.loop-open.open ≡ 0
    none = omega (arith, c.loop-open-test.false)

    ended : (items : List Item) → whole (built_of c.loop-open.builder) items ≡ whole (built_of c.args.builder) (ends c.args.depth ++ items)
    ended items = subst (λ n. whole (built_of c.loop-open.builder) (ends n ++ items) ≡ whole (built_of c.args.builder) (ends c.args.depth ++ items)) none
        (c.loop-open.invariant.goes_on items)
