use Rattle.std.proofs.Common.{◌++◌, ◌∙◌, ap}
use Rattle.explain_text.specs.Lines.{where_to, ending_line}
use Rattle.explain_text.proofs.result.result_line.Goals as goal

pub returns : goal.returns
returns c = c.in_ok-push_status.ensures ∙ ap (λ line. line ++ ending_line c.args.status) (c.in_ok-line.ensures ∙ ap where_to c.delivered_to.ensures)
