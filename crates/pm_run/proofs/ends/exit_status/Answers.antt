use Rattle.std.proofs.Common.{◌∙◌}
use Rattle.pm_meaning.specs.Minds.{mind_of}
use Rattle.pm_run.proofs.EndLemmas.{has_status}
use Rattle.pm_run.proofs.ends.exit_status.Goals as goal

pub returns-in_default : goal.returns-in_default
returns-in_default c = c.chosen_status.ensures ∙ has_status c.args.end c.args.trapped (mind_of c.args.process.now) c.in_default.not-NoRc
