use Rattle.formail_extra.specs.Adding.{cut}
use Rattle.formail_extra.proofs.adding.begin_again.Goals as goal

pub returns-in-Cut-clause-begins : goal.returns-in-Cut-clause-begins
returns-in-Cut-clause-begins g c =
    cut _ (rw (c.as_str.ensures.same, c.in-Cut.is) at c.cut.ensures) (rw c.clear.ensures.items at c.add_line.ensures.adds)
