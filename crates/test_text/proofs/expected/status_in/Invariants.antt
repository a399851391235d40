use Rattle.std.proofs.Common.{◌≡◌, drop}
use Rattle.test_text.specs.Expected.{status_in}
use Rattle.test_text.proofs.expected.status_in.Given as goal

abbrev pub invariant-loop-part : goal.invariant-loop-part
invariant-loop-part l = status_in (drop l.part-index l.parts) ≡ status_in l.parts
