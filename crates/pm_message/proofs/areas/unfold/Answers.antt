use Rattle.std.proofs.Common.{refl}
use Rattle.std.specs.Prelude.{codes}
use Rattle.pm_message.specs.Area.{unfolded}
use Rattle.pm_message.proofs.FoldLemmas.{folded_on}
use Rattle.pm_message.proofs.areas.unfold.Goals as goal

pub loop-line-preserved-in-Some-past_blank : goal.loop-line-preserved-in-Some-past_blank
loop-line-preserved-in-Some-past_blank c =
    rw (c.in_ok-push_slice-in-Some-past_blank.ensures.ok, c.in_ok-push_slice.ensures.ok) (folded_on (unfolded c.args.bytes.now) c.loop-line.text c.loop-line.rest.now c.in-Some.line.now c.in-Some.behind.now (codes " ") c.in-Some-past_blank.more.now
    c.loop-line.invariant c.in-Some.ensures.cut.0 c.in-Some.ensures.cut.1 c.in-Some-past_blank.ensures.folds)

pub loop-line-preserved : goal.loop-line-preserved
loop-line-preserved c =
    rw (c.in_ok-push_slice-in-None.ensures.ok, c.in_ok-push_slice.ensures.ok) (folded_on (unfolded c.args.bytes.now) c.loop-line.text c.loop-line.rest.now c.in-Some.line.now c.in-Some.behind.now (codes "\n") c.in-Some.behind.now
    c.loop-line.invariant c.in-Some.ensures.cut.0 c.in-Some.ensures.cut.1 (c.in-None.ensures.breaks refl))
