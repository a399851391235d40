use Rattle.std.proofs.Common.{◌≡◌, drop}
use Rattle.explain_run.specs.Starting.{first_from}
use Rattle.explain_run.proofs.starting.first_after.Given as goal

abbrev pub invariant-loop-place : goal.invariant-loop-place
invariant-loop-place l = first_from l.last l.place (drop l.place l.starts) ≡ first_from l.last 0 l.starts
