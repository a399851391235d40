use Rattle.formail_split.proofs.PartLemmas.{slice_rest, one_more_at}
use Rattle.formail_split.proofs.mailbox.parts_of_blob.Goals as goal

pub loop-start-preserved : goal.loop-start-preserved
loop-start-preserved c =
    let bytes = c.as_slice-bytes.result.now in
    rw c.in_ok-push.ensures.items
    (one_more_at bytes _ c.in_ok-part.field-0 c.loop-start.parts.items c.loop-start.start c.first_length.result (slice_rest bytes c.loop-start.start)
    c.loop-start-test.true c.first_length.ensures.within c.first_length.ensures.first (rw (← c.as_slice-bytes.ensures) at c.in_ok-part.ensures) (c.loop-start.invariant.1, c.loop-start.invariant.2))
