use Rattle.std.proofs.Common.{◌≡◌, ◌++◌, [], drop}
use Rattle.check_moving.specs.Found.{found_from}
use Rattle.check_moving.specs.Standing.{begin}
use Rattle.check_moving.proofs.searching.found_in.Given as goal

abbrev pub invariant-loop-span : goal.invariant-loop-span
invariant-loop-span l =
    l.findings.items ++ found_from l.standing l.names.items (drop l.span-index l.spans) ≡ found_from (begin l.spans) [] l.spans
