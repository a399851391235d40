use Rattle.std.proofs.Common.{sym}
use Rattle.pm_recipe.proofs.LineEnds.{comment-ends, comment-endless}
use Rattle.pm_recipe.proofs.newlines.line_end.Goals as goal

pub returns-in-Some-clause-length : goal.returns-in-Some-clause-length
returns-in-Some-clause-length c =
    let first = c.in-Some.ensures in sym (comment-ends c.args.text.now c.in-Some.end first.0.high first.0.before first.1)

pub returns-in-None-clause-length : goal.returns-in-None-clause-length
returns-in-None-clause-length c = sym (comment-endless c.args.text.now c.in-None.ensures)
