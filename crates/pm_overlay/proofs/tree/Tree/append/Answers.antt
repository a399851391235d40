use Rattle.std.proofs.Common.{refl}
use Rattle.pm_overlay.proofs.Steps.{appended, not_appended}
use Rattle.pm_overlay.proofs.tree.Tree.append.Goals as goal

pub returns-in-Ok-clause-step : goal.returns-in-Ok-clause-step
returns-in-Ok-clause-step g c = appended _ _ _ c.args.name.now c.in-File.len _ c.args.piece.now refl c.in-File.ensures c.in-Ok.ensures.ok

pub returns-in-Err-clause-step : goal.returns-in-Err-clause-step
returns-in-Err-clause-step g c = not_appended _ _ _ c.args.name.now c.in-File.len c.args.piece.now c.in-File.ensures c.in-Err.ensures.err
