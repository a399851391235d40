use Rattle.std.proofs.Common.{◌≡◌, ◌++◌, drop}
use Rattle.test_text.specs.Expected.{wanted_in}
use Rattle.test_text.proofs.expected.wanted_in.Given as goal

abbrev pub invariant-loop-part : goal.invariant-loop-part
invariant-loop-part l = l.wanted.items ++ wanted_in (drop l.part-index l.parts) ≡ wanted_in l.parts
