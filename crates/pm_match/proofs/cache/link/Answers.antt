use Rattle.pm_match.proofs.CacheLemmas.{linked}
use Rattle.pm_match.proofs.cache.link.Goals as goal

pub returns-clause-links : goal.returns-clause-links
returns-clause-links c = λ on p exit old new.
    let cache = c.args.cache.now in
    linked on p exit cache.count cache.sets.items cache.links.items c.args.at c.args.byte c.args.context c.args.to c.requires.at c.requires.to c.ranges.byte.fits c.requires.context old new
