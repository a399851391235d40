use Rattle.std.proofs.Common.{◌≡◌, [], rules, refl, ap, ◌∙◌}
use Rattle.pm_journal.proofs.WalkJoin.{reaches_itself}
use Rattle.pm_meaning.specs.Minds.{mind_of}
use Rattle.pm_meaning.specs.Running.{LeavingFile, step}
use Rattle.pm_run.specs.Frames.{block_locks}
use Rattle.pm_run.proofs.LeaveLemmas.{file_on, file_wants, file_over}
use Rattle.pm_run.proofs.leaving.leave_file.Goals as goal

pub loop-open-init : goal.loop-open-init
loop-open-init g c = record { reaches = λ items. reaches_itself step _ _ _; count = refl }

pub loop-open-preserved-in-Ok : goal.loop-open-preserved-in-Ok
loop-open-preserved-in-Ok g c = record {
  reaches = λ items. file_on (LeavingFile (block_locks c.args.blocks.now.items) items (mind_of c.args.run.now.process)) (block_locks c.loop-open.blocks.items) items (mind_of c.loop-open.run.process) _ _ _ _ (c.loop-open.invariant.reaches items)
      c.in-Some.open.lock (block_locks c.pop_front.new.self.items) (mind_of c.give_maybe.new.run.process) _ _ (ap block_locks c.in-Some.ensures.items) c.in-Ok.ensures.carries.0;
  count = c.give_maybe.ensures.count ∙ c.loop-open.invariant.count;
}

pub loop-open-preserved : goal.loop-open-preserved
loop-open-preserved g c = record {
  reaches = λ items. file_on (LeavingFile (block_locks c.args.blocks.now.items) items (mind_of c.args.run.now.process)) (block_locks c.loop-open.blocks.items) items (mind_of c.loop-open.run.process) _ _ _ _ (c.loop-open.invariant.reaches items)
      c.in-Some.open.lock (block_locks c.pop_front.new.self.items) (mind_of c.give_maybe.new.run.process) _ _ (ap block_locks c.in-Some.ensures.items) c.in-Ok.ensures.carries.0;
  count = c.give_maybe.ensures.count ∙ c.loop-open.invariant.count;
}

pub returns-in-Err-clause-walks : goal.returns-in-Err-clause-walks
returns-in-Err-clause-walks g c = λ items. (
  tt,
  file_wants (LeavingFile (block_locks c.args.blocks.now.items) items (mind_of c.args.run.now.process)) (block_locks c.loop-open.blocks.items) items (mind_of c.loop-open.run.process) _ _ _ _ (c.loop-open.invariant.reaches items)
      c.in-Some.open.lock (block_locks c.pop_front.new.self.items) _ _ (ap block_locks c.in-Some.ensures.items) c.in-Err.ensures.carries.1,
)

pub returns-clause-walks : goal.returns-clause-walks
returns-clause-walks g c = λ items.
    let none : c.loop-open.blocks.items ≡ [] = search rules in
    (file_over (LeavingFile (block_locks c.args.blocks.now.items) items (mind_of c.args.run.now.process)) (block_locks c.loop-open.blocks.items) items (mind_of c.loop-open.run.process) _ _ _ _ (c.loop-open.invariant.reaches items) (ap block_locks none), tt)
