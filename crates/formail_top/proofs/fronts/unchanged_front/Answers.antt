use Rattle.formail_top.proofs.OutputLemmas.{slice_rest, front_on}
use Rattle.formail_top.proofs.fronts.unchanged_front.Goals as goal

pub loop-front-preserved-else-not-branch : goal.loop-front-preserved-else-not-branch
loop-front-preserved-else-not-branch c =
    let bytes = c.as_slice-bytes.result.now in
    front_on c.args.request.now bytes _ c.in_ok-mail.mail c.loop-front.front c.first_length.result c.requires c.loop-front.invariant
    (slice_rest bytes c.loop-front.front) c.loop-front-test.true c.first_length.ensures.within c.first_length.ensures.first
    (rw (← c.as_slice-bytes.ensures) at c.in_ok-mail.ensures) (c.in_ok-is_unchanged.ensures.same c.if-not-branch.false)
    (c.in_ok-is_unchanged.ensures.none c.if-not-branch.false)

pub loop-front-preserved : goal.loop-front-preserved
loop-front-preserved c =
    let bytes = c.as_slice-bytes.result.now in
    front_on c.args.request.now bytes _ c.in_ok-mail.mail c.loop-front.front c.first_length.result c.requires c.loop-front.invariant
    (slice_rest bytes c.loop-front.front) c.loop-front-test.true c.first_length.ensures.within c.first_length.ensures.first
    (rw (← c.as_slice-bytes.ensures) at c.in_ok-mail.ensures) (c.in_ok-is_unchanged.ensures.same c.if-not-branch.false)
    (c.in_ok-is_unchanged.ensures.none c.if-not-branch.false)
