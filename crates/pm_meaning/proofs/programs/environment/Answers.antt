use Rattle.std.proofs.Common.{map, ap, ◌∙◌}
use Rattle.pm_vars.specs.Variables.{variable_of}
use Rattle.pm_meaning.proofs.ProgramLemmas.{exported}
use Rattle.pm_meaning.proofs.programs.environment.Goals as goal

pub returns : goal.returns
returns c = exported c.from_vec.result c.args.vars.now (ap (map variable_of) c.from_vec.ensures ∙ c.in_ok-pairs.ensures)
