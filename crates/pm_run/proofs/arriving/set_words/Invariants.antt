use Rattle.std.proofs.Common.{List, ℕ, drop}
use Rattle.pm_journal.specs.Walking.{Reaches}
use Rattle.pm_meaning.specs.Minds.{mind_of}
use Rattle.pm_meaning.specs.Running.{Event, Setting, step}
use Rattle.pm_meaning.specs.declared.command_line.CommandLine.{CommandLine}
use Rattle.pm_run.proofs.arriving.set_words.Given as goal

abbrev pub invariant-loop-value : goal.invariant-loop-value
invariant-loop-value g l = record {
  reaches : (line : CommandLine) (home : List ℕ) → Reaches {X = Event} step (Setting l.fn.values line home (mind_of l.fn.run.process)) (Setting (drop l.value-index l.values) line home (mind_of l.run.process)) l.fn.run.journal l.run.journal (g.D.Asks.told l.fn.run.outside) (g.D.Asks.told l.run.outside);
}
