use Rattle.std.proofs.Common.{refl}
use Rattle.pm_run.proofs.OpeningLemmas.{begun_frame, later_falls}
use Rattle.pm_run.proofs.walk.begin_later.Goals as goal

pub returns-in-Continue-Some-clause-walks : goal.returns-in-Continue-Some-clause-walks
returns-in-Continue-Some-clause-walks g c =
    let fresh = c.begin_frame.ensures in
    (rw (← begun_frame c.begin_frame.result c.in-Continue-Some.code fresh.place fresh.code fresh.blocks fresh.outer) at (rw (c.in-Continue-Some.is, c.in-Continue-Some.field-0-is) at c.in_ok-code.ensures.walks.0), tt)

pub returns-in-Continue-Some-clause-falls : goal.returns-in-Continue-Some-clause-falls
returns-in-Continue-Some-clause-falls g c =
    let counted = rw (c.in-Continue-Some.is, c.in-Continue-Some.field-0-is) at c.in_ok-code.ensures.counted in
    let most = rw (c.in-Continue-Some.is, c.in-Continue-Some.field-0-is) at c.in_ok-code.ensures.most in
    let fresh = c.begin_frame.ensures in
    later_falls c.args.run.now.process.openings c.open_later.new.run.process.openings c.args.frame.now c.begin_frame.result (counted refl) (most refl) fresh.place fresh.blocks fresh.outer

pub returns-in-Continue-None-clause-walks : goal.returns-in-Continue-None-clause-walks
returns-in-Continue-None-clause-walks g c = (rw (c.in-Continue-None.is, c.in-Continue-None.field-0-is) at c.in_ok-code.ensures.walks.0, tt)

pub returns-in-Break-clause-walks : goal.returns-in-Break-clause-walks
returns-in-Break-clause-walks g c = (rw c.in-Break.is at c.in_ok-code.ensures.walks.0, tt)
