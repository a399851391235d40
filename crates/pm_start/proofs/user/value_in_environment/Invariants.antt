use Rattle.std.proofs.Common.{◌≡◌, drop}
use Rattle.pm_start.specs.Login.{value_in}
use Rattle.pm_start.proofs.user.value_in_environment.Given as goal

abbrev pub invariant-loop-pair : goal.invariant-loop-pair
invariant-loop-pair l = (l.pair-items ≡ l.env.vars) × (value_in (drop l.pair-index l.pair-items) l.name ≡ value_in l.env.vars l.name)
