use Rattle.std.proofs.Common.{[], refl, arith}
use Rattle.pm_match.proofs.CountLemmas.{run_end}
use Rattle.pm_match.proofs.marks.count_unmarked.Goals as goal

pub count_at-at-requires-clause-marked : goal.count_at-at-requires-clause-marked
count_at-at-requires-clause-marked c = λ _. refl

pub returns-clause-counted : goal.returns-clause-counted
returns-clause-counted c = λ e fold is by.
    let inv = c.loop-at.invariant in
    let all = inv.counted e fold is by [] (run_end fold e c.args.area.now c.loop-at.at.place (omega (arith, c.loop-at-test.false))) in
    let size = all.2 in (all.0, all.1, omega (arith, size))
