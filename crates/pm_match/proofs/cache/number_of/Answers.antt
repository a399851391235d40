use Rattle.std.proofs.Common.{sym, subst, arith}
use Rattle.pm_match.specs.Cache.{AreLinks}
use Rattle.pm_match.proofs.CacheLemmas.{links_kept}
use Rattle.pm_match.proofs.cache.number_of.Goals as goal

pub returns-clause-links : goal.returns-clause-links
returns-clause-links c = λ on p exit old.
    let was = c.args.cache.now in
    let now = c.put.new.cache in
    subst (λ l. AreLinks on p exit now.count now.sets.items l.items) (sym c.put.ensures.links)
    (links_kept on p exit was.count was.sets.items now.count now.sets.items was.links.items (omega (arith, c.put.ensures.count)) c.put.ensures.kept old)
