use Rattle.std.proofs.Common.{◌∙◌}
use Rattle.check_find.specs.Reports.{unread_in}
use Rattle.check_find.proofs.Telling.{unread_of-more}
use Rattle.check_find.proofs.reports.put_conditions.Goals as goal

pub loop-span-preserved : goal.loop-span-preserved
loop-span-preserved c = (
  c.in_ok-put_condition.ensures.defects ∙ c.loop-span.invariant.0,
  unread_of-more (unread_in c.args.findings.now.items) (unread_in c.loop-span.findings.items) _ c.args.spans.now c.loop-span.span-index _ c.loop-span-test.true
      c.loop-span.invariant.1 c.in_ok-put_condition.ensures.conditions,
)
