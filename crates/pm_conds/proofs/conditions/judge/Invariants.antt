use Rattle.std.proofs.Common.{drop, length}
use Rattle.std.specs.Prelude.{pos, neg_ℤ, ◌≤ℤ◌}
use Rattle.pm_journal.specs.Executed.{LeadsTo}
use Rattle.pm_meaning.specs.Judging.{judge, judge_each}
use Rattle.pm_meaning.specs.Minds.{mind_of}
use Rattle.pm_conds.specs.Notes.{note_all}
use Rattle.pm_conds.proofs.NoteLemmas.{Hearing}
use Rattle.pm_conds.proofs.conditions.judge.Given as goal

abbrev pub invariant-loop-condition : goal.invariant-loop-condition
invariant-loop-condition g l = record {
  leads : LeadsTo (judge l.fn.conditions l.fn.flags (mind_of l.fn.run.process)) (judge_each l.weighted l.fn.flags (drop l.condition-index l.fn.conditions) l.total (mind_of l.run.process))
      l.fn.run.journal l.run.journal (g.D.Asks.told l.fn.run.outside) (g.D.Asks.told l.run.outside);
  low : neg_ℤ (pos 2147483647) ≤ℤ l.total;
  high : l.total ≤ℤ pos 2147483647;
  hears : Hearing (note_all l.fn.conditions l.fn.flags (mind_of l.fn.run.process) (length l.fn.run.journal.entries)) l.weighted l.fn.flags (drop l.condition-index l.fn.conditions) l.total (mind_of l.run.process)
      l.fn.run.journal l.run.journal (g.D.Asks.told l.fn.run.outside) (g.D.Asks.told l.run.outside) (g.N.Observer.heard l.fn.observer) (g.N.Observer.heard l.observer);
}
