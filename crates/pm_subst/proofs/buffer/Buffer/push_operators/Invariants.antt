use Rattle.std.proofs.Common.{◌≡◌, take, flat_map}
use Rattle.pm_subst.specs.Buffer.{Holds}
use Rattle.pm_subst.specs.Fields.{Fields, gathered}
use Rattle.pm_subst.specs.Values.{value_elements, escaped_operator}
use Rattle.pm_subst.proofs.buffer.Buffer.push_operators.Given as goal

abbrev pub invariant-loop-byte : goal.invariant-loop-byte
invariant-loop-byte l = record {
  splits_is : l.self.splits ≡ l.fn.self.splits;
  holds : (fields : Fields) → Holds l.fn.self fields → Holds l.self (gathered l.fn.self.splits fields (value_elements l.quoted (flat_map escaped_operator (take l.byte-index l.bytes))));
}
