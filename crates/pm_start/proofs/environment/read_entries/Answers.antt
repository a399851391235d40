use Rattle.std.proofs.Common.{take, ap}
use Rattle.pm_start.proofs.Variables.{none_read, one_read, all_read}
use Rattle.pm_start.proofs.environment.read_entries.Goals as goal

pub loop-index-init : goal.loop-index-init
loop-index-init g c = none_read (g.E.Entries.shown c.args.entries.now) c.new-vars.result.items c.new-vars.ensures.items

pub returns-in-None : goal.returns-in-None
returns-in-None g c =
    all_read (g.E.Entries.shown c.args.entries.now) c.loop-index.vars.items c.from_vec.result c.loop-index.index c.in_ok-length.field-0 c.read_entry.new.room.items
    c.loop-index.invariant c.in_ok-length.ensures.entry c.in-None.is c.from_vec.ensures

pub loop-index-preserved : goal.loop-index-preserved
loop-index-preserved g c =
    one_read (g.E.Entries.shown c.args.entries.now) c.loop-index.vars.items c.push_pair.new.vars.items c.loop-index.index c.in_ok-length.field-0 c.in-Some.length
    c.read_entry.new.room.items (take c.in-Some.length c.as_slice.result.now) c.loop-index.invariant c.in_ok-length.ensures.entry c.in-Some.is
    (ap (λ r. take c.in-Some.length r) c.as_slice.ensures.value) c.in_ok-push_pair-in-Some.ensures
