use Rattle.check_find.proofs.Quiet.{reports, no-surprise}
use Rattle.check_find.proofs.searching.find.Goals as goal

pub returns-clause-report : goal.returns-clause-report
returns-clause-report c =
    reports c.args.text.now c.in_ok-rc.rc.statements c.in_ok-findings.findings.items c.sort.new.findings.items c.in_ok-spans.spans.items c.as_slice.result.now
    c.in_ok-rc.ensures.statements c.in_ok-spans.ensures.spans c.as_slice.ensures.value c.in_ok-findings.ensures.defects c.in_ok-findings.ensures.conditions
    c.sort.ensures.same

pub returns-clause-no_surprise : goal.returns-clause-no_surprise
returns-clause-no_surprise c = λ statements rc.
    no-surprise c.args.text.now statements c.sort.new.findings.items rc
    (reports c.args.text.now c.in_ok-rc.rc.statements c.in_ok-findings.findings.items c.sort.new.findings.items c.in_ok-spans.spans.items c.as_slice.result.now
    c.in_ok-rc.ensures.statements c.in_ok-spans.ensures.spans c.as_slice.ensures.value c.in_ok-findings.ensures.defects c.in_ok-findings.ensures.conditions
    c.sort.ensures.same statements rc)
