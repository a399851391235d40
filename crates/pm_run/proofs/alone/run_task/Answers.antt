use Rattle.std.proofs.Common.{◌≡◌, ◌∙◌, reverse, sym, ap, subst}
use Rattle.std.proofs.lemmas.List.{reverse-reverse}
use Rattle.pm_journal.specs.Held.{Keeping}
use Rattle.pm_meaning.specs.Minds.{mind_of}
use Rattle.pm_run.specs.Tasks.{Stand, begins, begun_at, process_of, started}
use Rattle.pm_run.proofs.TaskLemmas.{wants_first, in_rcfile, seen_back, task_comes, task_wants}
use Rattle.pm_run.proofs.alone.run_task.Goals as goal

pub invariant_of-paused : goal.invariant_of-paused
invariant_of-paused g c = record { keeps = rw c.begin-begun.ensures.locks c.in-Ok.paused.keeps; room = rw c.begin-begun.ensures.locks c.in-Ok.paused.room }

pub invariant_of-paused-in-Ok-ended : goal.invariant_of-paused-in-Ok-ended
invariant_of-paused-in-Ok-ended g c =
    let same = c.rcfiles_left.ensures.locks in
    record { keeps = rw same c.run_apart-ended.result.paused.keeps; room = rw same c.run_apart-ended.result.paused.room }

pub returns-in-Err-clause-processes : goal.returns-in-Err-clause-processes
returns-in-Err-clause-processes g c = λ first.
    let t = c.args.task in
    let s = c.args.shared.now in
    let kept = subst (λ m. Keeping c.args.journal.now m.locks.names) (sym c.in-Err.ensures.same) c.requires.keeping in
    wants_first t.opening t.frames.items t.mind.rcfiles.items (process_of t.mind t.rcfile s) _ _ _ _ _ _ kept (rw c.in-Err.ensures.unmoved at c.give_all.ensures.gives)

pub returns-in-Ok-ended-clause-processes : goal.returns-in-Ok-ended-clause-processes
returns-in-Ok-ended-clause-processes g c =
    let t = c.args.task in
    let s = c.args.shared.now in
    let names : reverse c.reverse.new.self.items ≡ t.mind.rcfiles.items = ap reverse c.reverse.ensures.items ∙ reverse-reverse c.replace-names.result.items ∙ ap (λ v. v.items) c.replace-names.ensures.value in
    let taken = ap (in_rcfile t.rcfile s) c.in-Ok.ensures.state in
    let begun = c.begin-begun.ensures.state ∙ ap (λ l. started t.opening t.frames.items l (in_rcfile t.rcfile s (mind_of c.in-Ok.paused.process))) names ∙ ap (started t.opening t.frames.items t.mind.rcfiles.items) taken in
    let p = mind_of c.run_apart-ended.result.paused.process in
    let back = seen_back c.resume.new.self c.resume.new.shared p (c.resume.ensures.state ∙ c.rcfiles_left.ensures.rest) c.resume.ensures.counts.0 (ap (λ v. v.items) c.resume.ensures.rcfiles ∙ c.rcfiles_left.ensures.left) in
    let old : Stand = record { queue = c.args.queue.now; shared = s; journal = c.args.journal.now; view = g.D.Asks.told c.args.outside.now } in
    let new : Stand = record { queue = c.run_apart-ended.new.queue; shared = c.resume.new.shared; journal = c.run_apart-ended.result.paused.journal; view = g.D.Asks.told c.run_apart-ended.new.outside } in
    rw c.resume.ensures.journal
    (c.ended_with.ensures.comes old new (begins t s) (task_comes c.in-Ok-ended.end c.resume.new.self old new (begun_at c.begin-begun.result (mind_of c.begin-begun.new.process)) (begins t s) p begun c.resume.ensures.counts.1 back
    (λ first. (rw (c.in-Ok.ensures.journal, c.in-Ok-ended.is) at c.run_apart-ended.ensures.proceeds first).0)))

pub returns-in-Err-ended-clause-processes : goal.returns-in-Err-ended-clause-processes
returns-in-Err-ended-clause-processes g c = λ first.
    let t = c.args.task in
    let s = c.args.shared.now in
    let names : reverse c.reverse.new.self.items ≡ t.mind.rcfiles.items = ap reverse c.reverse.ensures.items ∙ reverse-reverse c.replace-names.result.items ∙ ap (λ v. v.items) c.replace-names.ensures.value in
    let taken = ap (in_rcfile t.rcfile s) c.in-Ok.ensures.state in
    let begun = c.begin-begun.ensures.state ∙ ap (λ l. started t.opening t.frames.items l (in_rcfile t.rcfile s (mind_of c.in-Ok.paused.process))) names ∙ ap (started t.opening t.frames.items t.mind.rcfiles.items) taken in
    let kept : Keeping c.run_apart-ended.result.paused.journal c.run_apart-ended.result.paused.process.locks.names = record { keeps = c.run_apart-ended.result.paused.keeps; room = c.run_apart-ended.result.paused.room } in
    task_wants _ _ (begins t s) _ _ _ _ _ _ _ begun (rw (c.in-Ok.ensures.journal, c.in-Err-ended.is) at c.run_apart-ended.ensures.proceeds first).1 kept c.give_all-in-Err-ended.ensures.gives
