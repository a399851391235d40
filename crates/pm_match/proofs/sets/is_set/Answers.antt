use Rattle.std.proofs.Common.{arith}
use Rattle.std.proofs.lemmas.Option.{slice_get_read}
use Rattle.pm_match.proofs.ListLemmas.{listed_set}
use Rattle.pm_match.proofs.sets.is_set.Goals as goal

pub returns : goal.returns
returns c = λ yes.
    let sets = c.args.sets.now in
    let at = slice_get_read sets.spans.items _ _ _ sets.spans.ok.0 (omega (arith, c.if-number-len.false, c.len.ensures)) c.index.ensures in
    let o = c.requires.ordered c.args.number _ at in
    listed_set sets.spans.items sets.states.items c.args.states.now.items c.index.result.now c.args.goes_on c.args.number at (c.is_listed.ensures.flag yes) o.0
    (let size = c.is_listed.ensures.size yes in omega (arith, size, c.args.states.now.ok.0)) (c.is_listed.ensures.same yes)
