use Rattle.std.proofs.Common.{◌≡◌, ◌++◌, take, vec_capacity}
use Rattle.pm_match.proofs.sets.list.Given as goal

abbrev pub invariant-loop-state : goal.invariant-loop-state
invariant-loop-state l = (l.all.items ≡ l.fn.all.items ++ take l.state-index l.states) × (vec_capacity l.all ≡ vec_capacity l.fn.all)
