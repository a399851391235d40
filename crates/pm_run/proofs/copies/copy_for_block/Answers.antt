use Rattle.std.proofs.Common.{◌∙◌, List, None, ap}
use Rattle.pm_meaning.specs.Minds.{Mind, mind_of}
use Rattle.pm_meaning.specs.Running.{Item, Task, inside, unlocked}
use Rattle.pm_run.specs.Copies.{block_at}
use Rattle.pm_run.specs.Frames.{items_of}
use Rattle.pm_run.specs.Nested.{are_nested, items_in}
use Rattle.pm_run.proofs.CopyLemmas.{copied_nested, frames_copied}
use Rattle.pm_run.proofs.copies.copy_for_block.Goals as goal

pub invariant_of-result : goal.invariant_of-result
invariant_of-result c = record {
  free = c.in-Ok.ensures.free;
  nested = ap are_nested c.in_ok-frames.ensures ∙ copied_nested c.args.place c.args.process.now.chain c.args.frame.now;
}

pub returns-in-Ok-clause-task : goal.returns-in-Ok-clause-task
returns-in-Ok-clause-task c =
    let p = mind_of c.args.process.now in
    let f = c.args.frame.now in
    let task : List Item → Mind → Task = λ items mind. record { items = items; mind = mind } in
    ap (λ items. task items (mind_of c.in-Ok.process)) (ap items_in c.in_ok-frames.ensures ∙ frames_copied c.args.place p.chain f c.requires.behind)
    ∙ ap (task (unlocked (inside (block_at c.args.place f) p.chain None (items_of f)))) c.in-Ok.ensures.mind
