use Rattle.std.proofs.Common.{◌≡◌, length, drop}
use Rattle.pm_journal.specs.Executed.{LeadsTo}
use Rattle.pm_meaning.specs.Minds.{mind_of}
use Rattle.pm_meaning.specs.Outputs.{outputs_of, outputs_behind}
use Rattle.pm_meaning.proofs.outputs.run_each.Given as goal

abbrev pub invariant-loop-command : goal.invariant-loop-command
invariant-loop-command g l = record {
  leads : LeadsTo (outputs_of l.fn.commands (mind_of l.fn.run.process)) (outputs_behind l.outputs.items (drop l.command-index l.fn.commands) (mind_of l.run.process))
      l.fn.run.journal l.run.journal (g.D.Asks.told l.fn.run.outside) (g.D.Asks.told l.run.outside);
  each : length l.outputs.items ≡ l.command-index;
}
