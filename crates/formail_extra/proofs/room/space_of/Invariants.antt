use Rattle.std.proofs.Common.{◌≡◌, ◌+◌, drop, sum_by}
use Rattle.formail_extra.specs.Room.{space_for}
use Rattle.formail_extra.proofs.room.space_of.Given as goal

abbrev pub invariant-loop-id : goal.invariant-loop-id
invariant-loop-id l = l.all + sum_by space_for (drop l.id-index l.ids) ≡ l.bytes + sum_by space_for l.ids
