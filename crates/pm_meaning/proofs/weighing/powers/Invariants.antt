use Rattle.std.proofs.Common.{◌≡◌, ◌<◌}
use Rattle.pm_meaning.specs.Scores.{powers}
use Rattle.pm_meaning.proofs.weighing.powers.Given as goal

abbrev pub invariant-loop-k : goal.invariant-loop-k
invariant-loop-k l = (l.sum ≡ powers l.x l._k) × (l.sum < 4294967295)
