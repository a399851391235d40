use Rattle.check_fix.proofs.Joined.{header_put}
use Rattle.check_fix.proofs.calls.put_header.Goals as goal

pub returns : goal.returns
returns c =
    header_put c.args.span.now.first c.args.span.now.bytes.now c.args.edits.now.items c.put_call.new.edits.items
    c.put_call-2.new.edits.items c.put_call-3.new.edits.items c.put_call-4.new.edits.items c.in_ok-put_call.ensures
    c.in_ok-put_call-2.ensures c.in_ok-put_call-3.ensures c.in_ok-put_call-4.ensures
