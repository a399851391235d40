use Rattle.pm_perform.proofs.errands.carry.Goals as goal

pub returns-in-Feed-clause-carries : goal.returns-in-Feed-clause-carries
returns-in-Feed-clause-carries g c = λ work is.
    let fed = rw c.in-Feed.is at is in
    (rw fed.2 (c.feed.ensures.feeds fed.0 fed.1), tt)
