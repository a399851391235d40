use Rattle.std.proofs.Common.{◌≡◌, ◌≤◌, ℕ}
use Rattle.pm_folders.specs.Filing.{TriedSoFar}
use Rattle.pm_folders.specs.Trying.{nth_try, candidates_from}
use Rattle.pm_folders.proofs.tries.file_in_first.Given as goal

abbrev pub invariant-loop-k : goal.invariant-loop-k
invariant-loop-k g l = record {
  within : l.k ≤ 100;
  so_far : TriedSoFar (candidates_from (nth_try l.fn.names) 0 100) l.k l.piece (g.H.Host.told l.fn.host) (g.H.Host.told l.host);
  same : (j : ℕ) → nth_try l.names j ≡ nth_try l.fn.names j;
}
