use Rattle.formail_extra.specs.Table.{ArePast}
use Rattle.formail_extra.proofs.marks.table_of.Given as goal

abbrev pub invariant-loop-id : goal.invariant-loop-id
invariant-loop-id l = ArePast l.table 0
