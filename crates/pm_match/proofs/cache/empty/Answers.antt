use Rattle.std.proofs.Common.{arith}
use Rattle.std.proofs.lemmas.Option.{slice_get_within}
use Rattle.pm_match.proofs.cache.empty.Goals as goal

pub returns-clause-none : goal.returns-clause-none
returns-clause-none c = λ k t is.
    let links = c.loop-index.links in
    let within = slice_get_within links.items k t is in
    c.loop-index.invariant.none k t (omega (arith, within, c.loop-index.invariant.len, c.loop-index-test.false, c.len-index-end.ensures, links.ok.0)) is
