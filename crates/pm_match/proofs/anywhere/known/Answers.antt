use Rattle.std.proofs.Common.{arith}
use Rattle.std.proofs.lemmas.Option.{slice_get_read}
use Rattle.pm_match.proofs.EdgeLemmas.{read_byte}
use Rattle.pm_match.proofs.ListLemmas.{link_after}
use Rattle.pm_match.proofs.anywhere.known.Goals as goal

pub returns-then-link-lt-NONE : goal.returns-then-link-lt-NONE
returns-then-link-lt-NONE c = λ p entry exit met now.
    let sets = c.args.sets.now in
    let area = c.args.area.now in
    let byte = (c.type_inv.area c.args.place).fits in
    let read = slice_get_read sets.links.items _ _ _ sets.links.ok.0 (omega (arith, c.if-index-len.false, c.len.ensures)) c.index-link.ensures in
    link_after p area entry exit c.args.place c.args.at _ _ sets.spans.items sets.states.items sets.links.items met now byte
    (read_byte area c.args.place c.requires.place) (omega (arith, c.if-place-area.false)) read c.if-link-lt-NONE.true
