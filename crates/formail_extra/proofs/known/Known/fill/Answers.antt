use Rattle.std.proofs.Common.{subst}
use Rattle.formail_extra.specs.Marks.{MarksSeen}
use Rattle.formail_extra.proofs.known.Known.fill.Goals as goal

pub invariant_of-self : goal.invariant_of-self
invariant_of-self c = record { marks_seen = subst (MarksSeen c.follow.new.marks) c.as_slice.ensures.value c.follow.ensures }
