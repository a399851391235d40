use Rattle.std.proofs.Common.{◌≡◌, length}
use Rattle.pm_meaning.specs.ProgramActions.{after_arrows}
use Rattle.pm_meaning.proofs.appended.after_arrows.Given as goal

abbrev pub invariant-loop-rest : goal.invariant-loop-rest
invariant-loop-rest l = after_arrows l.rest ≡ after_arrows l.fn.line

abbrev pub decreases-loop-rest : goal.decreases-loop-rest
decreases-loop-rest l = length l.rest
