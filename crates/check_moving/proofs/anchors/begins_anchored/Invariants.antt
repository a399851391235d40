use Rattle.std.proofs.Common.{◌≡◌, ◌≤◌, ◌+◌, length}
use Rattle.check_moving.specs.Anchors.{anchors_from, begins_anchored}
use Rattle.check_moving.proofs.anchors.begins_anchored.Given as goal

abbrev pub invariant-loop-byte : goal.invariant-loop-byte
invariant-loop-byte l = record {
  same : anchors_from l.expands l.names l.spot l.fresh l.inner l.rest ≡ begins_anchored l.expands l.names l.initial.text;
  within : l.inner + length l.rest ≤ length l.initial.text;
}

abbrev pub decreases-loop-byte : goal.decreases-loop-byte
decreases-loop-byte l = length l.rest
