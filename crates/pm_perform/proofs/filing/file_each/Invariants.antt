use Rattle.std.proofs.Common.{◌≡◌, ◌≤◌, ◌+◌, ◌*◌, List, map, length}
use Rattle.pm_meaning.specs.Delivering.{file_all}
use Rattle.pm_meaning.specs.Minds.{mind_of}
use Rattle.pm_meaning.specs.declared.process.Destination.{Destination}
use Rattle.pm_perform.specs.Copies.{copy_for, AllShown}
use Rattle.pm_perform.proofs.FileLemmas.{RestOf}
use Rattle.pm_perform.proofs.FoundLemmas.{Grown}
use Rattle.pm_perform.proofs.filing.file_each.Given as goal

abbrev pub invariant-loop-copy : goal.invariant-loop-copy
invariant-loop-copy g l = record {
  rest : (ds : List Destination) → l.fn.copies.items ≡ map (copy_for l.fn.flags (mind_of l.fn.run.process)) ds
      → RestOf (file_all l.fn.flags ds (mind_of l.fn.run.process)) l.fn.flags l.copies.items (mind_of l.run.process) l.fn.run.journal l.run.journal (g.D.Asks.told l.fn.run.outside) (g.D.Asks.told l.run.outside);
  room : length l.run.process.locks.names + 3 * length l.copies.items ≤ l.run.journal.room;
  shown : AllShown l.copies.items;
  locks : l.run.process.locks ≡ l.fn.run.process.locks;
  grown : Grown l.fn.run.journal l.run.journal;
}

abbrev pub decreases-loop-copy : goal.decreases-loop-copy
decreases-loop-copy g l = length l.copies.items
