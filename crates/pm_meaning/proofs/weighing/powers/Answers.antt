use Rattle.std.proofs.Common.{◌≡◌, ◌<◌, ◌+◌, ◌*◌, ◌∙◌, suc, sym, arith, add-one}
use Rattle.pm_meaning.specs.Scores.{powers}
use Rattle.pm_meaning.proofs.ScoreLemmas.{sum_of_zero, sum_of_one, sum_beyond, one_more}
use Rattle.pm_meaning.proofs.weighing.powers.Goals as goal

pub returns-then-x-eq0 : goal.returns-then-x-eq0
returns-then-x-eq0 c = c.min.ensures ∙ sum_of_zero c.args.x c.args.count c.if-x-eq0.true

pub returns-then-x-eq1 : goal.returns-then-x-eq1
returns-then-x-eq1 c = c.min-then-x-eq1.ensures ∙ sum_of_one c.args.x c.args.count c.if-x-eq1.true

pub returns-then-sum-ge-OUT_OF_RANGE : goal.returns-then-sum-ge-OUT_OF_RANGE
returns-then-sum-ge-OUT_OF_RANGE c =
    sum_beyond c.args.x c.loop-k._k c.args.count c.loop-k.sum c.loop-k.invariant.0 c.loop-k-test.true c.if-sum-ge-OUT_OF_RANGE.true

pub loop-k-preserved : goal.loop-k-preserved
loop-k-preserved c =
    let here = c.loop-k.invariant.0 in
    let more = one_more c.args.x c.loop-k._k in
    let same : 1 + c.args.x * c.loop-k.sum ≡ powers c.args.x (suc c.loop-k._k) = rw here (sym more) in
    let less : 1 + c.args.x * c.loop-k.sum < 4294967295 = omega arith in
    (rw add-one same, less)
