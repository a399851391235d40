use Rattle.std.proofs.Common.{ap, arith}
use Rattle.pm_match.proofs.search.Search.is_reserved.Goals as goal

pub returns-in-Some : goal.returns-in-Some
returns-in-Some c = λ t.
    let same = ap (λ m. m.reach) c.deref.ensures in
    let less = c.reaches.ensures t in
    (c.in-Some.marks, c.in-Some.is, omega (arith, less, same))
