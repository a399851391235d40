use Rattle.std.proofs.Common.{[], arith}
use Rattle.pm_match.proofs.CountLemmas.{run_end}
use Rattle.pm_match.proofs.marks.count_marked.Goals as goal

pub returns-clause-counted : goal.returns-clause-counted
returns-clause-counted c = λ e fold is by.
    let inv = c.loop-index.invariant in
    let end = inv.done c.loop-index-test.false in
    let all = inv.counted e fold is by [] (run_end fold e c.args.area.now c.loop-index.at.place end) in
    let size = all.2 in (all.0, all.1, omega (arith, size))
