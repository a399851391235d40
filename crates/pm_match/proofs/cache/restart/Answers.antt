use Rattle.std.proofs.Common.{◌≡◌, Some, subst}
use Rattle.std.specs.Prelude.{slice_get}
use Rattle.pm_match.proofs.CacheLemmas.{no_links}
use Rattle.pm_match.proofs.cache.restart.Goals as goal

pub returns-clause-links : goal.returns-clause-links
returns-clause-links c = λ on p exit.
    no_links on p exit c.put.new.cache.count c.put.new.cache.sets.items c.put.new.cache.links.items
    (λ k t is. c.empty.ensures.none k t (subst (λ l. slice_get l.items k ≡ Some t) c.put.ensures.links is))
