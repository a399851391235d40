use Rattle.pm_match.proofs.search.Search.begin_of.Goals as goal

pub prepare_anywhere-requires : goal.prepare_anywhere-requires
prepare_anywhere-requires c = let h = c.requires in (h.0, h.1, h.2, c.is_crowded.ensures.kept h.0 h.1 h.2 h.3)

pub before_first-requires : goal.before_first-requires
before_first-requires c = let h = c.requires in (h.0, h.1, h.2, c.prepare_anywhere.ensures h.0 h.1 h.2 (c.is_crowded.ensures.kept h.0 h.1 h.2 h.3))

pub is_worth-requires : goal.is_worth-requires
is_worth-requires c = let h = c.requires in (h.0, h.1, h.2, c.is_crowded.ensures.kept h.0 h.1 h.2 h.3)

pub prepare_cache-requires : goal.prepare_cache-requires
prepare_cache-requires c = let h = c.requires in (h.0, h.1, h.2, c.is_worth.ensures h.0 h.1 h.2 (c.is_crowded.ensures.kept h.0 h.1 h.2 h.3))

pub before_all-requires : goal.before_all-requires
before_all-requires c =
    let h = c.requires in (h.0, h.1, h.2, c.prepare_cache.ensures h.0 h.1 h.2 (c.is_worth.ensures h.0 h.1 h.2 (c.is_crowded.ensures.kept h.0 h.1 h.2 h.3)))

pub returns-then-is_crowded-clause-kept : goal.returns-then-is_crowded-clause-kept
returns-then-is_crowded-clause-kept c = λ l r fold h. c.before_first.ensures.kept l r fold (c.prepare_anywhere.ensures l r fold (c.is_crowded.ensures.kept l r fold h))

pub returns-then-is_crowded-clause-none : goal.returns-then-is_crowded-clause-none
returns-then-is_crowded-clause-none c = λ l r fold h. c.before_first.ensures.none l r fold (c.prepare_anywhere.ensures l r fold (c.is_crowded.ensures.kept l r fold h))

pub returns-then-is_worth-clause-kept : goal.returns-then-is_worth-clause-kept
returns-then-is_worth-clause-kept c = λ l r fold h.
    c.before_all.ensures.kept l r fold (c.prepare_cache.ensures l r fold (c.is_worth.ensures l r fold (c.is_crowded.ensures.kept l r fold h)))

pub returns-then-is_worth-clause-none : goal.returns-then-is_worth-clause-none
returns-then-is_worth-clause-none c = λ l r fold h.
    c.before_all.ensures.none l r fold (c.prepare_cache.ensures l r fold (c.is_worth.ensures l r fold (c.is_crowded.ensures.kept l r fold h)))

pub returns-clause-kept : goal.returns-clause-kept
returns-clause-kept c = λ l r fold h. c.is_worth.ensures l r fold (c.is_crowded.ensures.kept l r fold h)
