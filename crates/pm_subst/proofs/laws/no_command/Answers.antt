use Rattle.pm_subst.proofs.NoCommand.{no-command}
use Rattle.pm_subst.proofs.laws.no_command.Goals as goal

pub returns : goal.returns
returns c = no-command
