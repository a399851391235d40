use Rattle.std.proofs.Common.{◌≡◌, ◌++◌}
use Rattle.explain_run.specs.Lines.{lines_from, with_started}
use Rattle.explain_run.proofs.lines.with_started.Given as goal

abbrev pub invariant-loop-line : goal.invariant-loop-line
invariant-loop-line l = l.told ++ lines_from l.started l.place l.line-iterator ≡ with_started l.started l.fn.text
