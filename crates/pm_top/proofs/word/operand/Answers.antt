use Rattle.std.proofs.Common.{◌≡◌, false, length, arith}
use Rattle.std.specs.List.{list_any, position_or_len}
use Rattle.std.proofs.lemmas.Grind.{common_steps}
use Rattle.pm_top.specs.Words.{is_equals}
use Rattle.pm_top.proofs.Assignments.{no_equals}
use Rattle.pm_top.proofs.word.operand.Goals as goal

pub returns-else-is_empty-clause-says : goal.returns-else-is_empty-clause-says
returns-else-is_empty-clause-says c =
    let far : position_or_len is_equals c.args.word.now ≡ length c.args.word.now = grind (arith, common_steps, c.in-None.ensures.byte) in
    let none : list_any is_equals c.args.word.now ≡ false = no_equals c.args.word.now far in
    λ line named. grind (arith, common_steps)
