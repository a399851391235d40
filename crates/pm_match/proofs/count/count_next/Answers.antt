use Rattle.std.proofs.Common.{◌∙◌}
use Rattle.pm_regex.specs.Re.{nothing}
use Rattle.pm_match.proofs.CountLemmas.{rest_counts}
use Rattle.pm_match.proofs.count.count_next.Goals as goal

pub after-requires-clause-found : goal.after-requires-clause-found
after-requires-clause-found c =
    let r = c.requires.runs in (c.args.search.now, r.0, r.1, r.2, c.first-found.ensures.first r.0 nothing r.1 r.2)

pub after-requires-in-Some-clause-found : goal.after-requires-in-Some-clause-found
after-requires-in-Some-clause-found c =
    let r = c.requires.runs in (c.args.search.now, r.0, r.1, r.2, c.first_within.ensures.first _ c.in-Some.is r.0 nothing r.1 r.2)

pub count_on-requires-clause-runs : goal.count_on-requires-clause-runs
count_on-requires-clause-runs c =
    let r = c.requires.runs in (r.0, r.1, c.first_within.ensures.kept r.0 nothing r.1 r.2)

pub returns-in-None-clause-counted : goal.returns-in-None-clause-counted
returns-in-None-clause-counted c = λ e fold h by.
    rest_counts fold e c.args.area.now _ (c.count_on.ensures.counted e fold (c.first_within.ensures.kept e nothing fold h) by)

pub count_on-requires-clause-reserved : goal.count_on-requires-clause-reserved
count_on-requires-clause-reserved c =
    let r = c.is_reserved.ensures c.if-not-is_reserved.false in (r.0, c.first_within.ensures.marks ∙ r.1, r.2)

pub returns-in-None-clause-kept : goal.returns-in-None-clause-kept
returns-in-None-clause-kept c = λ l r fold h. c.count_on.ensures.kept l r fold (c.first_within.ensures.kept l r fold h)
