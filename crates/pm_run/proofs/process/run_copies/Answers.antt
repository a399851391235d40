use Rattle.std.proofs.Common.{◌≡◌, [], rules, sym, ap, subst, length, arith}
use Rattle.pm_journal.specs.Held.{Keeping}
use Rattle.pm_meaning.specs.Minds.{mind_of}
use Rattle.pm_run.specs.Others.{next_in}
use Rattle.pm_run.proofs.OtherLemmas.{goes_itself, all_done, none_next, copy_ran, copy_wants, keeping_none}
use Rattle.pm_run.proofs.process.run_copies.Goals as goal

pub loop-copy-init : goal.loop-copy-init
loop-copy-init g c = record { goes = goes_itself (next_in c.args.others.queue c.args.others.first c.args.others.counts) _ _ }

pub invariant_of-run : goal.invariant_of-run
invariant_of-run g c =
    let kept = subst (Keeping c.loop-copy.idle.journal) (sym c.in-Some.copy.free) (keeping_none _ c.loop-copy.idle.keeps) in
    record { keeps = kept.keeps; room = kept.room }

pub loop-copy-preserved : goal.loop-copy-preserved
loop-copy-preserved g c =
    let popped = c.next_copy.new.queue in
    record {
      goes = copy_ran (next_in c.args.others.queue c.args.others.first c.args.others.counts) c.loop-copy.queue popped c.run_copy-ended.new.queue c.in-Some.copy c.args.others.first c.loop-copy.counted _ _ _ _ _ _ c.in-Some.ensures.items c.next_copy.ensures.made c.loop-copy.invariant.goes
          c.in-Ok.field-0 (mind_of c.run_copy-ended.new.run.process) c.leave_process-lent.result.counts _ _ (λ first. (rw c.in-Ok.is at c.run_copy-ended.ensures.proceeds first).0) c.leave_process-lent.ensures.placed c.leave_process-lent.ensures.openings c.leave_process-lent.ensures.gives;
    }

pub returns-in-Err-clause-memory : goal.returns-in-Err-clause-memory
returns-in-Err-clause-memory g c =
    let popped = c.next_copy.new.queue in
    copy_wants (next_in c.args.others.queue c.args.others.first c.args.others.counts) c.loop-copy.queue popped c.run_copy-ended.new.queue c.in-Some.copy c.args.others.first c.loop-copy.counted _ _ _ _ _ _ c.in-Some.ensures.items c.next_copy.ensures.made c.loop-copy.invariant.goes
    _ _ _ (λ first. (rw c.in-Err.is at c.run_copy-ended.ensures.proceeds first).1) c.leave_process-lent.ensures.gives (keeping_none _ c.args.idle.keeps) (record { keeps = c.run_copy-ended.new.run.keeps; room = c.run_copy-ended.new.run.room })

pub returns-clause-ok : goal.returns-clause-ok
returns-clause-ok g c =
    let none : c.loop-copy.queue.copies.items ≡ [] = search rules in
    all_done (next_in c.args.others.queue c.args.others.first c.args.others.counts) (next_in c.loop-copy.queue c.args.others.first c.loop-copy.counted) c.args.others.first _ _ _ _ (none_next c.loop-copy.queue c.args.others.first c.loop-copy.counted none) c.loop-copy.invariant.goes

pub loop-copy-smaller : goal.loop-copy-smaller
loop-copy-smaller g c = omega (arith, c.run_copy-ended.ensures.few, c.next_copy.ensures.made, ap length c.in-Some.ensures.items)
