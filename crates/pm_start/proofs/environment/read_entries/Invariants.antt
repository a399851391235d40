use Rattle.std.proofs.Common.{◌≡◌, ◌++◌, drop, IfSome}
use Rattle.pm_start.specs.Variables.{pairs_of}
use Rattle.pm_start.proofs.environment.read_entries.Given as goal

abbrev pub invariant-loop-index : goal.invariant-loop-index
invariant-loop-index g l = IfSome (g.E.Entries.shown l.fn.entries) (λ shown. l.vars.items ++ pairs_of (drop l.index shown) ≡ pairs_of shown)
