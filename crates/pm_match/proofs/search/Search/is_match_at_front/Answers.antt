use Rattle.pm_match.proofs.search.Search.is_match_at_front.Goals as goal

pub is_match_within-requires-clause-automata : goal.is_match_within-requires-clause-automata
is_match_within-requires-clause-automata c = let h = c.requires in let g = h.3 in g.whole

pub is_match_within-requires-clause-room : goal.is_match_within-requires-clause-room
is_match_within-requires-clause-room c = let h = c.requires in let g = h.3 in g.room

pub returns-clause-kept : goal.returns-clause-kept
returns-clause-kept c = λ l r fold g.
    record { whole = g.whole; room = c.is_match_within.ensures.room; marks = g.marks; cache = g.cache; anywhere = g.anywhere; left = g.left; right = g.right }

pub returns-clause-some : goal.returns-clause-some
returns-clause-some c = λ t l r fold g. c.is_match_within.ensures.some t fold l r g.left g.right

pub returns-clause-none : goal.returns-clause-none
returns-clause-none c = λ t l r fold g. c.is_match_within.ensures.none t fold l r g.left g.right
