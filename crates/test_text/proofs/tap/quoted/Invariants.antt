use Rattle.std.proofs.Common.{◌≡◌, ◌++◌, drop, flat_map}
use Rattle.test_text.specs.Tap.{quoted_byte}
use Rattle.test_text.proofs.tap.quoted.Given as goal

abbrev pub invariant-loop-byte : goal.invariant-loop-byte
invariant-loop-byte l = l.text.items ++ flat_map quoted_byte (drop l.byte-index l.bytes) ≡ flat_map quoted_byte l.bytes
