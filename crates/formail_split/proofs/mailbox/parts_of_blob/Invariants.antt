use Rattle.std.proofs.Common.{◌≡◌, ◌≤◌, ◌-◌, ◌++◌, length, drop}
use Rattle.std.specs.List.{concat}
use Rattle.formail_split.specs.Parts.{parts_of}
use Rattle.formail_split.proofs.mailbox.parts_of_blob.Given as goal

abbrev pub invariant-loop-start : goal.invariant-loop-start
invariant-loop-start l =
    (l.start ≤ length l.bytes)
    × (l.parts.items ++ parts_of (drop l.start l.bytes) ≡ parts_of l.bytes)
    × (concat l.parts.items ++ drop l.start l.bytes ≡ l.bytes)

abbrev pub decreases-loop-start : goal.decreases-loop-start
decreases-loop-start l = length l.bytes - l.start
