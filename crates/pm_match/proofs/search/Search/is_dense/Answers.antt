use Rattle.pm_match.proofs.search.Search.is_dense.Goals as goal

pub first-found-requires-clause-runs : goal.first-found-requires-clause-runs
first-found-requires-clause-runs c = let h = c.requires in (h.0, h.1, h.2, c.prepare.ensures.kept h.0 h.1 h.2 h.3)

pub returns : goal.returns
returns c = λ l r fold h. c.first-found.ensures.kept l r fold (c.prepare.ensures.kept l r fold h)
