use Rattle.std.proofs.Common.{◌≡◌, drop}
use Rattle.check_fix.specs.Locks.{cache_follows}
use Rattle.check_fix.proofs.locks.cache_follows.Given as goal

abbrev pub invariant-loop-span : goal.invariant-loop-span
invariant-loop-span l = cache_follows l.cache (drop l.span-index l.spans) ≡ cache_follows l.cache l.spans
