use Rattle.std.proofs.Common.{◌≡◌, ◌++◌, drop}
use Rattle.explain_host.specs.Tools.{lines_of}
use Rattle.explain_host.proofs.own_code.lines_of.Given as goal

abbrev pub invariant-loop-one : goal.invariant-loop-one
invariant-loop-one l = l.lines.items ++ lines_of (drop l.one-index l.given) ≡ lines_of l.given
