use Rattle.std.specs.Prelude.{nat_eq}
use Rattle.std.proofs.Common.{rules}
use Rattle.lockfile_top.proofs.TaskLemmas.{not_said}
use Rattle.lockfile_top.proofs.doing.tell_force.Goals as goal

pub returns-else-forced-ne0-clause-says : goal.returns-else-forced-ne0-clause-says
returns-else-forced-ne0-clause-says g c = λ names. not_said (nat_eq c.args.forced 0) c.args.line names _ _ (search rules)
