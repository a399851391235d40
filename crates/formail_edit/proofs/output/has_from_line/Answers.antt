use Rattle.std.proofs.Common.{sym, ◌∙◌}
use Rattle.formail_edit.proofs.BodyLemmas.{plain_body}
use Rattle.formail_edit.proofs.output.has_from_line.Goals as goal

pub returns-in-None : goal.returns-in-None
returns-in-None c = λ _. plain_body c.args.text.now (sym c.starts_with.ensures.value ∙ c.if-starts_with.false) c.in-None.ensures
