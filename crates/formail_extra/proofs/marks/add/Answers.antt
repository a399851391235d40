use Rattle.formail_extra.proofs.TableLemmas.{past_put}
use Rattle.formail_extra.proofs.marks.add.Goals as goal

pub returns : goal.returns
returns c = past_put c.in_ok-from_slice.field-0.items c.args.table.now c.insert.new.self c.in_ok-insert.ensures.updates c.requires
