use Rattle.std.proofs.Common.{◌+◌, rules, refl, ap}
use Rattle.pm_journal.proofs.WantsMemory.{on_err}
use Rattle.pm_meaning.specs.Chains.{with_chain}
use Rattle.pm_meaning.specs.Minds.{mind_of}
use Rattle.pm_meaning.proofs.Choices.{ok_map, err_map}
use Rattle.pm_run.specs.Copies.{block_at}
use Rattle.pm_run.specs.Frames.{items_of}
use Rattle.pm_run.proofs.CloneLemmas.{clone_refused, refusing_wants, clone_wants, clone_made}
use Rattle.pm_run.proofs.cloning.make_clone.Goals as goal

pub returns-then-queue-ge-MOST_COPIES-clause-proceeds : goal.returns-then-queue-ge-MOST_COPIES-clause-proceeds
returns-then-queue-ge-MOST_COPIES-clause-proceeds g c =
    let f = c.args.frame.now in
    let items = items_of f in
    let trees = block_at c.args.place f in
    let p = mind_of c.args.run.now.process in
    let told = rw c.refuse_clone.ensures.same at (c.refuse_clone.ensures.carries items) in
    rw c.refuse_clone.ensures.same (λ first. (
      ok_map c.refuse_clone.result _ _ (λ _ h. clone_refused trees items p c.args.run.now.journal (g.D.Asks.told c.args.run.now.outside) c.args.queue.now c.refuse_clone.new.run.journal (g.D.Asks.told c.refuse_clone.new.run.outside) c.if-queue-ge-MOST_COPIES.true h first) told.0,
      err_map c.refuse_clone.result _ _ (λ h. refusing_wants trees items p c.args.run.now.journal (g.D.Asks.told c.args.run.now.outside) c.args.queue.now c.refuse_clone.new.run.journal (g.D.Asks.told c.refuse_clone.new.run.outside) c.if-queue-ge-MOST_COPIES.true h first) told.1,
    ))

pub returns-in_err-copy-clause-proceeds : goal.returns-in_err-copy-clause-proceeds
returns-in_err-copy-clause-proceeds g c =
    let f = c.args.frame.now in
    λ first. (search rules, on_err _ _ (clone_wants (block_at c.args.place f) (items_of f) (mind_of c.args.run.now.process) c.args.run.now.journal (g.D.Asks.told c.args.run.now.outside) c.args.queue.now first))

pub returns-in_err-push_back-clause-proceeds : goal.returns-in_err-push_back-clause-proceeds
returns-in_err-push_back-clause-proceeds g c =
    let f = c.args.frame.now in
    λ first. (search rules, on_err _ _ (clone_wants (block_at c.args.place f) (items_of f) (mind_of c.args.run.now.process) c.args.run.now.journal (g.D.Asks.told c.args.run.now.outside) c.args.queue.now first))

pub returns-clause-proceeds : goal.returns-clause-proceeds
returns-clause-proceeds g c =
    let f = c.args.frame.now in
    let p = mind_of c.args.run.now.process in
    let later = record c.args.queue.now { copies = c.push_back.new.self; made = c.args.queue.now.made + 1 } in
    λ first. (
      clone_made (block_at c.args.place f) (items_of f) p c.args.run.now.journal (g.D.Asks.told c.args.run.now.outside) c.args.queue.now later c.in_ok-copy.copy (with_chain c.succeed-run.result p) c.if-queue-ge-MOST_COPIES.false refl c.in_ok-push_back.ensures.items c.in_ok-copy.ensures.task
          (ap (λ k. with_chain k p) c.succeed-run.ensures) first,
      tt,
    )
