use Rattle.pm_meaning.specs.Leads.{asking_of}
use Rattle.pm_conds.proofs.LeadLemmas.{passed_more, passed_end, none_of}
use Rattle.pm_conds.proofs.leads.read_lead.Goals as goal

pub loop-more-preserved : goal.loop-more-preserved
loop-more-preserved c =
    passed_more (asking_of c.args.text.now c.args.question.now) (asking_of c.loop-more.rest.now c.loop-more.question) (asking_of c.in-Some.more.now c.pass.new.question)
    (rw c.in-Some.is at c.in_ok-more.ensures.some) (rw c.in-Some.is at c.in_ok-more.ensures.shorter) c.loop-more.invariant

pub returns : goal.returns
returns c =
    let none = none_of _ c.in_default.not-Some in
    rw (c.in_ok-more.ensures.same none) (passed_end (asking_of c.args.text.now c.args.question.now) (asking_of c.loop-more.rest.now c.loop-more.question) (c.in_ok-more.ensures.none none) c.loop-more.invariant)
