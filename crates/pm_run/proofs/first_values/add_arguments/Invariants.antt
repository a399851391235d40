use Rattle.std.proofs.Common.{◌≡◌, ◌++◌, drop}
use Rattle.pm_run.proofs.first_values.add_arguments.Given as goal

abbrev pub invariant-loop-argument : goal.invariant-loop-argument
invariant-loop-argument l = (l.argument-items ≡ l.arguments) × (record l.vars { arguments = l.vars.arguments ++ drop l.argument-index l.argument-items } ≡ record l.fn.vars { arguments = l.fn.vars.arguments ++ l.arguments })
