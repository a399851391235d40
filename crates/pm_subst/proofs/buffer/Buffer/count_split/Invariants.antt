use Rattle.std.proofs.Common.{◌≡◌, ◌≤◌, ◌+◌, ◌*◌, take, is_some, true, false}
use Rattle.pm_subst.specs.Buffer.{Holds}
use Rattle.pm_subst.specs.Fields.{Fields, gathered, size}
use Rattle.pm_subst.specs.Values.{value_elements}
use Rattle.pm_subst.proofs.buffer.Buffer.count_split.Given as goal

abbrev pub invariant-loop-byte : goal.invariant-loop-byte
invariant-loop-byte l = record {
  room : l.length ≤ l.byte-index * 2;
  length_is : (fields : Fields) → Holds l.self fields
      → size true (gathered true fields (value_elements false (take l.byte-index l.bytes))) ≡ size true fields + l.length;
  begun_is : (fields : Fields) → Holds l.self fields
      → is_some (gathered true fields (value_elements false (take l.byte-index l.bytes))).current ≡ l.begun;
}
