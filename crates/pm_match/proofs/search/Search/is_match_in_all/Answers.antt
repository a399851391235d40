use Rattle.std.proofs.Common.{None, arith}
use Rattle.pm_match.proofs.SkipLemmas.{first_from}
use Rattle.pm_match.proofs.AnyLemmas.{from_first}
use Rattle.pm_match.proofs.search.Search.is_match_in_all.Goals as goal

pub prepare-requires : goal.prepare-requires
prepare-requires c = let h = c.requires in (h.0, h.1, h.2, c.begin_of-from.ensures.kept h.0 h.1 h.2 h.3)

pub is_match-requires-clause-automata : goal.is_match-requires-clause-automata
is_match-requires-clause-automata c =
    let h = c.requires in
    let g = c.prepare.ensures.kept h.0 h.1 h.2 (c.begin_of-from.ensures.kept h.0 h.1 h.2 h.3) in g.whole

pub is_match-requires-clause-room : goal.is_match-requires-clause-room
is_match-requires-clause-room c =
    let h = c.requires in
    let g = c.prepare.ensures.kept h.0 h.1 h.2 (c.begin_of-from.ensures.kept h.0 h.1 h.2 h.3) in g.room

pub returns-clause-kept : goal.returns-clause-kept
returns-clause-kept c = λ l r fold h.
    let g = c.prepare.ensures.kept l r fold (c.begin_of-from.ensures.kept l r fold h) in
    record { whole = g.whole; room = c.is_match.ensures.room; marks = g.marks; cache = g.cache; anywhere = g.anywhere; left = g.left; right = g.right }

pub returns-clause-some : goal.returns-clause-some
returns-clause-some c = λ t l r fold h none.
    let g = c.prepare.ensures.kept l r fold (c.begin_of-from.ensures.kept l r fold h) in
    c.is_match.ensures.some t fold l r g.left g.right (from_first fold l r c.args.area.now 0 c.begin_of-from.result (omega arith) none)

pub returns-clause-none : goal.returns-clause-none
returns-clause-none c = λ t l r fold h.
    let g = c.prepare.ensures.kept l r fold (c.begin_of-from.ensures.kept l r fold h) in
    first_from fold l r c.args.area.now 0 c.begin_of-from.result (omega arith) (c.begin_of-from.ensures.none l r fold h) None
    (c.is_match.ensures.none t fold l r g.left g.right)
