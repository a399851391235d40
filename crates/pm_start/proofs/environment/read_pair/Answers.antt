use Rattle.std.proofs.Common.{rules}
use Rattle.pm_start.proofs.Variables.{no_pair, bad_name, bad_value, good_pair}
use Rattle.pm_start.proofs.environment.read_pair.Goals as goal

pub returns-in_default-clause-computed : goal.returns-in_default-clause-computed
returns-in_default-clause-computed c = search (rules, no_pair)

pub returns-in_default-2-clause-computed : goal.returns-in_default-2-clause-computed
returns-in_default-2-clause-computed c = search (rules, bad_name)

pub returns-in_default-3-clause-computed : goal.returns-in_default-3-clause-computed
returns-in_default-3-clause-computed c = search (rules, bad_value)

pub returns-clause-computed : goal.returns-clause-computed
returns-clause-computed c = search (rules, good_pair)
