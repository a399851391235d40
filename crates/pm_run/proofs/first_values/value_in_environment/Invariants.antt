use Rattle.std.proofs.Common.{◌≡◌, drop, map}
use Rattle.pm_vars.specs.Variables.{value_of, variable_of}
use Rattle.pm_meaning.specs.FirstValues.{environment_value}
use Rattle.pm_run.proofs.first_values.value_in_environment.Given as goal

abbrev pub invariant-loop-pair : goal.invariant-loop-pair
invariant-loop-pair l = (l.pair-items ≡ l.env.vars) × (value_of l.name (map variable_of (drop l.pair-index l.pair-items)) ≡ environment_value l.env l.name)
