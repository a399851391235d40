use Rattle.std.proofs.Common.{ap}
use Rattle.pm_regex.proofs.FoundOrNot.{found_of}
use Rattle.pm_meaning.specs.Searching.{found_outcome}
use Rattle.pm_conds.proofs.Choices.{comes_to}
use Rattle.pm_conds.proofs.searching.find_area.Goals as goal

pub returns : goal.returns
returns c =
    comes_to c.sought.result _ _
    (ap (λ a. found_outcome c.args.inverted c.args.area.now (found_of a.fold c.args.expr c.args.area.now).0) c.in_ok-engine.ensures) c.sought.ensures
