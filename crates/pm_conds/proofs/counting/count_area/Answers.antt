use Rattle.std.proofs.Common.{ap}
use Rattle.pm_regex.proofs.FoundOrNot.{found_of}
use Rattle.pm_regex.proofs.CountOf.{count_of}
use Rattle.pm_meaning.specs.Weighing
use Rattle.pm_conds.proofs.Choices.{comes_to}
use Rattle.pm_conds.proofs.counting.count_area.Goals as goal

pub returns : goal.returns
returns c =
    comes_to c.counted.result _ _
    (ap (λ a. Weighing.counted_outcome c.args.weight c.args.inverted c.args.area.now (found_of a.fold c.args.expr c.args.area.now).0 (count_of a.fold c.args.expr c.args.area.now).0) c.in_ok-engine.ensures)
    c.counted.ensures
