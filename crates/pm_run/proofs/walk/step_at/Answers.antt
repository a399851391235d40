use Rattle.std.proofs.Common.{arith}
use Rattle.std.proofs.lemmas.Grind.{common_steps}
use Rattle.pm_run.proofs.WalkLemmas.{is_step_at}
use Rattle.pm_run.proofs.walk.step_at.Goals as goal

pub returns-then-place-steps : goal.returns-then-place-steps
returns-then-place-steps c = is_step_at c.args.steps.now c.args.place _ (grind (arith, common_steps)) c.index-steps-place.is
