use Rattle.std.proofs.Common.{◌≡◌, ◌++◌, drop, flat_map}
use Rattle.test_text.specs.Tap.{tap_byte}
use Rattle.test_text.proofs.tap.push_description.Given as goal

abbrev pub invariant-loop-byte : goal.invariant-loop-byte
invariant-loop-byte l = l.shown.items ++ flat_map tap_byte (drop l.byte-index l.bytes) ≡ flat_map tap_byte l.bytes
