use Rattle.std.proofs.Common.{◌≡◌, ◌+◌, ◌-◌, ◌*◌, ◌++◌, [], length, rules, sym, ap, arith}
use Rattle.pm_run.specs.Frames.{block_locks, outer_locks, left_outside}
use Rattle.pm_run.proofs.LeaveLemmas.{next_locks, no_locks}
use Rattle.pm_run.proofs.leaving.come_out.Goals as goal

pub returns-in-None-clause-locks : goal.returns-in-None-clause-locks
returns-in-None-clause-locks c =
    let f = c.args.frame.now in
    let same : f.outer.items ≡ c.pop_front.new.self.items = search rules in
    ap (λ l. block_locks f.blocks.items ++ outer_locks l) (sym same)

pub returns-in-None-clause-last : goal.returns-in-None-clause-last
returns-in-None-clause-last c = λ _.
    let none : c.pop_front.new.self.items ≡ [] = search rules in
    no_locks c.args.frame.now.blocks.items c.pop_front.new.self.items c.requires none

pub returns-in-Some-clause-locks : goal.returns-in-Some-clause-locks
returns-in-Some-clause-locks c =
    let f = c.args.frame.now in
    next_locks f.blocks.items f.outer.items c.pop_front.new.self.items c.in-Some.waiting c.requires c.in-Some.ensures.items

pub returns-in-Some-clause-further : goal.returns-in-Some-clause-further
returns-in-Some-clause-further c = λ _.
    let f = c.args.frame.now in
    let w = c.in-Some.waiting in
    let outside : left_outside f.outer.items ≡ 1 + 2 * (length w.code.steps.items - w.place) + length w.blocks.items + left_outside c.pop_front.new.self.items = ap left_outside c.in-Some.ensures.items in
    omega (arith, outside, ap length c.requires)
