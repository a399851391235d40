use Rattle.std.proofs.Common.{◌≡◌, ◌+◌, ◌-◌, subst, sym, arith}
use Rattle.pm_match.specs.Backward.{ReachesExit}
use Rattle.pm_match.proofs.BackwardLemmas.{read_held}
use Rattle.pm_match.proofs.marks.count_window.Goals as goal

pub count_at-at-requires-clause-marked : goal.count_at-at-requires-clause-marked
count_at-at-requires-clause-marked c = λ out.
    let k = c.loop-at.at.place - c.args.bounds.low in
    let same : c.args.bounds.low + k ≡ c.loop-at.at.place = omega (arith, c.loop-at.invariant.after) in
    read_held c.args.window.now k
    ((c.requires.marked k (omega (arith, same, c.loop-at-test.true))).1
    (subst (λ i. ReachesExit c.args.program.now.steps.items c.args.area.now c.args.program.now.exit c.args.program.now.entry i) (sym same) out))
