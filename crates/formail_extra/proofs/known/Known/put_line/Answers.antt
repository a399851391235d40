use Rattle.std.proofs.Common.{subst, ◌∙◌, arith}
use Rattle.formail_extra.specs.Cache.{addition_to}
use Rattle.formail_extra.specs.Marks.{MarksSeen}
use Rattle.formail_extra.proofs.FollowLemmas.{marks_front}
use Rattle.formail_extra.proofs.known.Known.put_line.Goals as goal

pub follow-requires-clause-seen : goal.follow-requires-clause-seen
follow-requires-clause-seen c =
    marks_front c.args.self.now.marks c.args.self.now.bytes.items c.as_slice.result.now (addition_to c.args.self.now.bytes.items c.args.id.now) c.len-at.result
    (c.as_slice.ensures.value ∙ c.put_line.ensures.items) (omega (arith, c.len-at.ensures)) c.args.self.now.marks_seen

pub invariant_of-self : goal.invariant_of-self
invariant_of-self c = record { marks_seen = subst (MarksSeen c.follow.new.marks) c.as_slice.ensures.value c.follow.ensures }
