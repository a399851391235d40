use Rattle.pm_real.specs.Again.{Tries}
use Rattle.pm_real.proofs.again.until_answered.Given as goal

abbrev pub invariant-loop-left : goal.invariant-loop-left
invariant-loop-left g l =
    goal.F-IsAlwaysCallable g l.call
    × ((answer : _) (last : _) → Tries (λ before r after. goal.F-step g before r after) l.left l.call answer last → Tries (λ before r after. goal.F-step g before r after) 1000000 l.fn.call answer last)

abbrev pub decreases-loop-left : goal.decreases-loop-left
decreases-loop-left g l = l.left
