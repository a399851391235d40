use Rattle.std.proofs.Common.{rules}
use Rattle.formail_extra.proofs.TableLemmas.{marked_there}
use Rattle.formail_extra.proofs.marks.mark.Goals as goal

pub returns-in-Some : goal.returns-in-Some
returns-in-Some c =
    marked_there c.args.id.now c.args.table.now (c.get_mut.follows.lender c.args.round) c.in-Some.last.now c.args.round c.in-Some.ensures.value
    ((c.get_mut.follows.holds c.args.round).3 (search rules))
