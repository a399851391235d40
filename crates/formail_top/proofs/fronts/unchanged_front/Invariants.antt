use Rattle.std.proofs.Common.{◌-◌, length}
use Rattle.formail_top.proofs.OutputLemmas.{IsFront}
use Rattle.formail_top.proofs.fronts.unchanged_front.Given as goal

abbrev pub invariant-loop-front : goal.invariant-loop-front
invariant-loop-front l = IsFront l.request l.bytes l.front

abbrev pub decreases-loop-front : goal.decreases-loop-front
decreases-loop-front l = length l.bytes - l.front
