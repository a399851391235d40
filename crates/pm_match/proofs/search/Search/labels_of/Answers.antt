use Rattle.pm_match.proofs.search.Search.labels_of.Goals as goal

pub loop-number-init : goal.loop-number-init
loop-number-init c = λ l r fold h. c.prepare.ensures.kept l r fold h

pub loop-number-preserved : goal.loop-number-preserved
loop-number-preserved c = λ l r fold h. c.first-found.ensures.kept l r fold (c.loop-number.invariant l r fold h)

pub first-found-requires-clause-runs : goal.first-found-requires-clause-runs
first-found-requires-clause-runs c = let h = c.requires in (h.0, h.1, h.2, c.loop-number.invariant h.0 h.1 h.2 h.3)

pub returns : goal.returns
returns c = c.loop-number.invariant
