use Rattle.std.proofs.Common.{length, ap, ◌∙◌}
use Rattle.std.specs.Prelude.{unwrap_or}
use Rattle.pm_meaning.specs.Leads.{ends_name}
use Rattle.pm_conds.proofs.Choices.{stop_is}
use Rattle.pm_conds.proofs.leads.name_stop.Goals as goal

pub returns-clause-value : goal.returns-clause-value
returns-clause-value c = c.unwrap_or.ensures ∙ ap (λ o. unwrap_or o (length c.args.text.now)) c.name_end.ensures ∙ stop_is ends_name c.args.text.now
