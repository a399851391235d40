use Rattle.std.proofs.Common.{Some, ap, ◌∙◌}
use Rattle.pm_match.proofs.search.Search.is_match.Goals as goal

pub is_match_in_all-requires : goal.is_match_in_all-requires
is_match_in_all-requires c = let h = c.requires in (h.0, h.1, h.2, c.is_match_at_front.ensures.kept h.0 h.1 h.2 h.3)

pub returns-in-None-clause-kept : goal.returns-in-None-clause-kept
returns-in-None-clause-kept c = λ l r fold h. c.is_match_in_all.ensures.kept l r fold (c.is_match_at_front.ensures.kept l r fold h)

pub returns-in-None-clause-some : goal.returns-in-None-clause-some
returns-in-None-clause-some c = λ t l r fold h. c.is_match_in_all.ensures.some t l r fold (c.is_match_at_front.ensures.kept l r fold h)

pub returns-in-None-clause-none : goal.returns-in-None-clause-none
returns-in-None-clause-none c = λ t l r fold h. c.is_match_in_all.ensures.none t l r fold (c.is_match_at_front.ensures.kept l r fold h)

pub returns-in-Some-clause-some : goal.returns-in-Some-clause-some
returns-in-Some-clause-some c = λ t l r fold h. c.is_match_at_front.ensures.some (c.in-Some.is ∙ ap (λ b. Some b) t) l r fold h

pub returns-in-Some-clause-none : goal.returns-in-Some-clause-none
returns-in-Some-clause-none c = λ t l r fold h. c.is_match_at_front.ensures.none (c.in-Some.is ∙ ap (λ b. Some b) t) l r fold h
