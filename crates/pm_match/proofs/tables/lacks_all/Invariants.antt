use Rattle.std.proofs.Common.{ℕ, ◌<◌, ◌≤◌}
use Rattle.std.specs.Prelude.{IsFalse}
use Rattle.pm_match.specs.Starts.{Lacks}
use Rattle.pm_match.proofs.tables.lacks_all.Given as goal

abbrev pub invariant-loop-byte : goal.invariant-loop-byte
invariant-loop-byte l = IsFalse l.has_one → (b : ℕ) → l.from ≤ b → b < l.byte → Lacks l.table.items b
