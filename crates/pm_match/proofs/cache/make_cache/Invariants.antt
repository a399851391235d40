use Rattle.std.proofs.Common.{◌≡◌, vec_len}
use Rattle.pm_match.specs.Cache.{AreSets}
use Rattle.pm_match.proofs.cache.make_cache.Given as goal

abbrev pub invariant-loop : goal.invariant-loop
invariant-loop l = record {
  sets : AreSets l.size l.sets.items;
  many : vec_len l.sets ≡ l.counter;
}
