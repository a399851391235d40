use Rattle.std.proofs.Common.{◌≡◌, ◌++◌, drop}
use Rattle.explain_run.specs.Starting.{starts_from, starts_of}
use Rattle.explain_run.proofs.starting.starts_of.Given as goal

-- what is known of the programs so far, and what is found of the others
abbrev pub invariant-loop-index : goal.invariant-loop-index
invariant-loop-index l = l.starts.items ++ starts_from l.lines l.entries l.notes l.index (drop l.index l.entries) ≡ starts_of l.lines l.entries l.notes
