use Rattle.std.proofs.Common.{Err, arith, of_calls}
use Rattle.pm_real.specs.Again.Tries.{answered, again, given_up}
use Rattle.pm_real.proofs.again.until_answered.Goals as goal

pub returns-then-not-is_interrupted : goal.returns-then-not-is_interrupted
returns-then-not-is_interrupted g c = (
  c.call-answer.new.self,
  c.loop-left.invariant.1 c.call-answer.result c.call-answer.new.self (answered c.loop-left.left c.loop-left.call c.call-answer.result c.call-answer.new.self
      (omega (arith, c.loop-left-test.true)) (record { met = c.call-answer.ensures.met }) (λ lost. absurd (grind (arith, c.is_interrupted.ensures.1 lost, c.if-not-is_interrupted.true)))),
)

pub loop-left-preserved : goal.loop-left-preserved
loop-left-preserved g c = (
  search of_calls,
  λ answer last tries. c.loop-left.invariant.1 answer last (again c.loop-left.left c.loop-left.call c.call-answer.result c.call-answer.new.self answer last
      (omega (arith, c.loop-left-test.true)) (record { met = c.call-answer.ensures.met }) (c.is_interrupted.ensures.0 (grind (arith, c.if-not-is_interrupted.false))) tries),
)

pub returns : goal.returns
returns g c = (
  c.loop-left.call,
  c.loop-left.invariant.1 (Err c.from.result) c.loop-left.call (given_up c.loop-left.left c.loop-left.call (Err c.from.result) (omega (arith, c.loop-left-test.false)) c.from.ensures),
)
