use Rattle.std.proofs.Common.{sym, arith}
use Rattle.std.proofs.lemmas.Option.{slice_get_read}
use Rattle.pm_match.proofs.EdgeLemmas.{read_byte}
use Rattle.pm_match.proofs.CacheLemmas.{got}
use Rattle.pm_match.proofs.forward.next_number.Goals as goal

pub returns-then-link-lt-NONE-clause-number : goal.returns-then-link-lt-NONE-clause-number
returns-then-link-lt-NONE-clause-number c = λ start at.
    let cache = c.args.forward.now.cache in
    let area = c.args.area.now in
    let ready = c.requires.ready.cache in
    let byte = (c.type_inv.area c.args.place).fits in
    let is_at = at.0 in
    let read = slice_get_read cache.links.items _ _ _ cache.links.ok.0
    (omega (arith, byte, is_at, c.end_context_at.ensures.few, ready.spare, ready.sets.links)) c.index-link.ensures in
    let set = got cache.sets.items c.args.at (omega (arith, is_at, ready.spare, cache.sets.ok.0)) in
    let link = ready.links c.args.at _ c.end_context_at.result _ byte c.end_context_at.ensures.few read c.if-link-lt-NONE.true in (
      link.1,
      λ s is. link.2 set.0 s set.1 is area start c.args.place (read_byte area c.args.place c.requires.place, sym c.end_context_at.ensures.is) (at.1 set.0 set.1),
    )
