use Rattle.std.proofs.Common.{sym, ◌∙◌}
use Rattle.formail_extra.proofs.FollowLemmas.{marks_after, marks_anew}
use Rattle.formail_extra.proofs.known.follow.Goals as goal

pub returns-then-is_empty : goal.returns-then-is_empty
returns-then-is_empty c =
    marks_after c.args.marks.now c.mark_lines.new.self c.args.bytes.now c.split_at.result.0.now c.split_at.result.1.now c.line_end.result.now c.args.at
    c.split_at.ensures.front c.split_at.ensures.back c.line_end.ensures.is (sym c.is_empty.ensures ∙ c.if-is_empty.true) c.if-bytes-le-MOST.true c.requires.seen c.mark_lines.ensures

pub returns : goal.returns
returns c = marks_anew c.clear.new.self c.mark_lines-2.new.self c.args.bytes.now c.front.result.now c.front.ensures c.clear.ensures c.mark_lines-2.ensures
