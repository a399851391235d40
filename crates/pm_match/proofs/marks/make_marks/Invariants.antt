use Rattle.std.proofs.Common.{◌≡◌, vec_len}
use Rattle.pm_match.specs.Cache.{AreSets}
use Rattle.pm_match.proofs.marks.make_marks.Given as goal

abbrev pub invariant-loop : goal.invariant-loop
invariant-loop l = record {
  sets : AreSets l.size l.checkpoints.items;
  many : vec_len l.checkpoints ≡ l.counter;
}
