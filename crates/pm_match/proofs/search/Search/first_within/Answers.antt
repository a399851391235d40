use Rattle.pm_match.proofs.search.Search.first_within.Goals as goal

pub returns-clause-kept : goal.returns-clause-kept
returns-clause-kept c = λ l r fold h.
    let g = c.prepare.ensures.kept l r fold h in
    record { whole = g.whole; room = c.find_within.ensures.room; marks = g.marks; cache = g.cache; anywhere = g.anywhere; left = g.left; right = g.right }

pub returns-clause-first : goal.returns-clause-first
returns-clause-first c = λ found is l r fold h.
    let g = c.prepare.ensures.kept l r fold h in
    c.find_within.ensures.first found is fold l r g.left g.right

pub find_within-requires-clause-automata : goal.find_within-requires-clause-automata
find_within-requires-clause-automata c =
    let h = c.requires.runs in
    let g = c.prepare.ensures.kept h.0 h.1 h.2 h.3 in g.whole

pub find_within-requires-clause-room : goal.find_within-requires-clause-room
find_within-requires-clause-room c =
    let h = c.requires.runs in
    let g = c.prepare.ensures.kept h.0 h.1 h.2 h.3 in g.room
