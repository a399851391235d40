use Rattle.check_fix.proofs.Joined.{reply_put}
use Rattle.check_fix.proofs.calls.put_reply.Goals as goal

pub returns : goal.returns
returns c =
    reply_put c.args.span.now.first c.args.span.now.bytes.now c.args.edits.now.items c.put_replied.new.edits.items
    c.put_replied-2.new.edits.items c.put_replied-3.new.edits.items c.in_ok-put_replied.ensures
    c.in_ok-put_replied-2.ensures c.in_ok-put_replied-3.ensures
