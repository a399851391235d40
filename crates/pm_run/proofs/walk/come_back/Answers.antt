use Rattle.std.proofs.Common.{refl, ap}
use Rattle.pm_meaning.specs.Minds.{mind_of}
use Rattle.pm_run.proofs.walk.come_back.Goals as goal

pub returns-in_ok-set_rcfile-in-Some-clause-back : goal.returns-in_ok-set_rcfile-in-Some-clause-back
returns-in_ok-set_rcfile-in-Some-clause-back c =
    let w = c.in-Some.waiting in
    (w, c.in-Some.ensures.items, refl, refl, refl, ap (λ v. record (mind_of c.args.process.now) { vars = v; rcfile = w.name }) c.in_ok-set_rcfile-in-Some.ensures.ok)
