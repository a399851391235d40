use Rattle.std.proofs.Common.{arith}
use Rattle.pm_match.proofs.ListLemmas.{link_more}
use Rattle.pm_match.proofs.sets.link.Goals as goal

pub returns-then-index-len-clause-met : goal.returns-then-index-len-clause-met
returns-then-index-len-clause-met c = λ p entry exit met new.
    let sets = c.args.sets.now in
    link_more p entry exit sets.spans.items sets.states.items sets.links.items c.args.at c.args.byte c.args.to
    (omega (arith, c.requires.at, sets.spans.ok.0)) (omega (arith, c.requires.to, sets.spans.ok.0)) c.ranges.byte.fits met new
