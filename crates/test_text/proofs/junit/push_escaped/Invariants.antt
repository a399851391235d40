use Rattle.std.proofs.Common.{◌≡◌, ◌++◌, drop, flat_map}
use Rattle.test_text.specs.Junit.{xml_byte}
use Rattle.test_text.proofs.junit.push_escaped.Given as goal

abbrev pub invariant-loop-byte : goal.invariant-loop-byte
invariant-loop-byte l = l.escaped.items ++ flat_map xml_byte (drop l.byte-index l.bytes) ≡ flat_map xml_byte l.bytes
