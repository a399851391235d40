use Rattle.std.proofs.Common.{◌≡◌, true, length}
use Rattle.pm_journal.specs.Executed.{LeadsTo}
use Rattle.pm_meaning.specs.Delivering.{say_each, is_without}
use Rattle.pm_meaning.specs.Minds.{mind_of}
use Rattle.pm_meaning.specs.Apart.{acted_with}
use Rattle.pm_perform.proofs.saying.say_each.Given as goal

abbrev pub invariant-loop-line : goal.invariant-loop-line
invariant-loop-line g l = record {
  leads : LeadsTo (say_each (mind_of l.fn.run.process) l.fn.lines.items (acted_with l.fn.acted (mind_of l.fn.run.process))) (say_each (mind_of l.fn.run.process) l.lines.items (acted_with l.fn.acted (mind_of l.fn.run.process)))
      l.fn.run.journal l.run.journal (g.D.Asks.told l.fn.run.outside) (g.D.Asks.told l.run.outside);
  same : l.run.process ≡ l.fn.run.process;
  some : is_without l.fn.lines.items ≡ true → is_without l.lines.items ≡ true;
}

abbrev pub decreases-loop-line : goal.decreases-loop-line
decreases-loop-line g l = length l.lines.items
