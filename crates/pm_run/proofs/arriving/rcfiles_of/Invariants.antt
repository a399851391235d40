use Rattle.std.proofs.Common.{◌≡◌, ◌++◌, drop, map}
use Rattle.pm_meaning.specs.Running.{named_rcfile}
use Rattle.pm_run.proofs.arriving.rcfiles_of.Given as goal

abbrev pub invariant-loop-word : goal.invariant-loop-word
invariant-loop-word l = (l.word-items ≡ l.line.rcfiles) × (l.names.items ++ map (named_rcfile l.line.filter l.home) (drop l.word-index l.word-items) ≡ map (named_rcfile l.line.filter l.home) l.line.rcfiles)
