use Rattle.std.proofs.Common.{◌<◌, [], ap, sym, ◌∙◌, arith, length}
use Rattle.pm_recipe.specs.Build.{plain}
use Rattle.pm_recipe.specs.Builder.{whole, built_of}
use Rattle.pm_recipe.proofs.Ended.{missed-some}
use Rattle.pm_recipe.proofs.ends.tell_missing.Goals as goal

pub returns-clause-whole : goal.returns-clause-whole
returns-clause-whole c = λ blocks s.
    let some : 0 < length blocks.lines = omega (arith, s.lines, c.if-depth-eq0.false) in
    c.in_ok-miss.ensures.built (plain [])
    ∙ ap (λ is. whole (built_of c.args.builder.now) is) (missed-some c.args.unended.outermost blocks.lines blocks.stopped some (sym s.stopped ∙ c.if-unended.false) s.outermost)
