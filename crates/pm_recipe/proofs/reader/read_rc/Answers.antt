use Rattle.pm_recipe.proofs.OneRc.{rc-built}
use Rattle.pm_recipe.proofs.reader.read_rc.Goals as goal

pub returns-clause-statements : goal.returns-clause-statements
returns-clause-statements c = rc-built c.args.bytes.now c.in_ok-statements.statements c.in_ok-statements.ensures
