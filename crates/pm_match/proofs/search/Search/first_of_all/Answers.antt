use Rattle.std.proofs.Common.{arith}
use Rattle.pm_match.proofs.SkipLemmas.{first_from}
use Rattle.pm_match.proofs.search.Search.first_of_all.Goals as goal

pub first-requires-clause-runs : goal.first-requires-clause-runs
first-requires-clause-runs c = let h = c.requires in (h.0, h.1, h.2, c.begin_of-from.ensures.kept h.0 h.1 h.2 h.3)

pub returns-clause-kept : goal.returns-clause-kept
returns-clause-kept c = λ l r fold h. c.first.ensures.kept l r fold (c.begin_of-from.ensures.kept l r fold h)

pub returns-clause-first : goal.returns-clause-first
returns-clause-first c = λ l r fold h.
    first_from fold l r c.args.area.now 0 c.begin_of-from.result (omega arith) (c.begin_of-from.ensures.none l r fold h)
    c.first.result (c.first.ensures.first l r fold (c.begin_of-from.ensures.kept l r fold h))
