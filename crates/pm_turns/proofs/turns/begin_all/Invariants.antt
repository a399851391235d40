use Rattle.std.proofs.Common.{◌≡◌, map}
use Rattle.pm_turns.specs.Turning.{begun}
use Rattle.pm_turns.proofs.turns.begin_all.Given as goal

abbrev pub invariant-loop-writer : goal.invariant-loop-writer
invariant-loop-writer l = l.all.items ≡ map begun l.yielded
