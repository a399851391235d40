use Rattle.std.proofs.Common.{◌∷◌, [], ap, ◌∙◌}
use Rattle.check_find.specs.Reports.{lines_of, unread_in}
use Rattle.check_find.proofs.Telling.{lines_of-append, unread_in-append}
use Rattle.check_find.proofs.reports.put.Goals as goal

pub returns-clause-defects : goal.returns-clause-defects
returns-clause-defects c = ap lines_of c.in_ok-push.ensures.items ∙ lines_of-append c.args.findings.now.items (c.args.finding ∷ [])

pub returns-clause-conditions : goal.returns-clause-conditions
returns-clause-conditions c = ap unread_in c.in_ok-push.ensures.items ∙ unread_in-append c.args.findings.now.items (c.args.finding ∷ [])
