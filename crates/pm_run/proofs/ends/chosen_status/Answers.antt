use Rattle.std.proofs.Common.{sym, ◌∙◌}
use Rattle.pm_meaning.specs.Minds.{mind_of}
use Rattle.pm_run.proofs.EndLemmas.{status_written}
use Rattle.pm_run.proofs.ends.chosen_status.Goals as goal

pub returns-in-Some : goal.returns-in-Some
returns-in-Some c = status_written c.args.end c.args.trapped c.in-Some.code (mind_of c.args.process.now) (sym c.in-Some.is ∙ c.exit_code.ensures)
