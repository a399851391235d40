use Rattle.std.proofs.Common.{◌≤◌, length, reverse}
use Rattle.pm_journal.specs.Walking.{Reaches}
use Rattle.pm_meaning.specs.Minds.{mind_of}
use Rattle.pm_meaning.specs.Running.{Event, Opening, step}
use Rattle.pm_run.specs.Ends.{rule_of_opening}
use Rattle.pm_run.proofs.opening.open_first.Given as goal

abbrev pub invariant-loop-name : goal.invariant-loop-name
invariant-loop-name g l = record {
  reaches : Reaches {X = Event} step (Opening (rule_of_opening l.fn.rule) (reverse l.fn.names.items) (mind_of l.fn.run.process)) (Opening (rule_of_opening l.fn.rule) (reverse l.names.items) (mind_of l.run.process)) l.fn.run.journal l.run.journal (g.D.Asks.told l.fn.run.outside) (g.D.Asks.told l.run.outside);
  counted : l.fn.run.process.openings ≤ l.run.process.openings;
}

abbrev pub decreases-loop-name : goal.decreases-loop-name
decreases-loop-name g l = length l.names.items
