use Rattle.std.proofs.Common.{sym, ◌∙◌}
use Rattle.formail_extra.proofs.FollowLemmas.{mark_right}
use Rattle.formail_extra.proofs.known.Known.has.Goals as goal

pub returns-in-Some : goal.returns-in-Some
returns-in-Some c =
    mark_right c.args.self.now.marks c.args.self.now.bytes.items c.args.id.now c.in-Some.marked c.args.self.now.marks_seen (sym c.in-Some.is ∙ c.mark_on.ensures)
