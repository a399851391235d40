use Rattle.std.proofs.Common.{◌≡◌, ◌++◌, drop}
use Rattle.pm_overlay.specs.Given.{spaced}
use Rattle.pm_overlay.proofs.programs.spaced_line.Given as goal

abbrev pub invariant-loop-arg : goal.invariant-loop-arg
invariant-loop-arg l = l.line ++ spaced (drop l.arg-index l.args) ≡ l.initial.line ++ spaced l.args
