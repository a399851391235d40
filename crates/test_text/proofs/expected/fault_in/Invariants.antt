use Rattle.std.proofs.Common.{◌≡◌, drop}
use Rattle.test_text.specs.Expected.{fault_in}
use Rattle.test_text.proofs.expected.fault_in.Given as goal

abbrev pub invariant-loop-part : goal.invariant-loop-part
invariant-loop-part l = fault_in (drop l.part-index l.parts) ≡ fault_in l.parts
