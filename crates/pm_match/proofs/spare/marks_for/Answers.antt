use Rattle.std.proofs.Common.{arith}
use Rattle.pm_match.proofs.spare.marks_for.Goals as goal

pub returns-clause-room : goal.returns-clause-room
returns-clause-room c = c.in_ok-marks.ensures.room c.args.program.now.steps.items c.args.program.now.entry c.args.program.now.exit
    (omega (arith, c.len.ensures, c.args.program.now.steps.ok.0))
