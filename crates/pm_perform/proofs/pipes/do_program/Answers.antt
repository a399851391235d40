use Rattle.std.proofs.Common.{refl, rules, ◌∙◌}
use Rattle.pm_journal.proofs.WantsMemory.{on_err, out_anywhere, out_front}
use Rattle.pm_meaning.specs.Delivering.{make_ready}
use Rattle.pm_meaning.specs.Minds.{mind_of}
use Rattle.pm_meaning.specs.ProgramActions.{do_program}
use Rattle.pm_perform.specs.Errands.{task_of}
use Rattle.pm_meaning.specs.Ready.{ready_of}
use Rattle.pm_perform.specs.Programs.{reading_of}
use Rattle.pm_meaning.proofs.Choices.{carried}
use Rattle.pm_perform.proofs.PipeLemmas.{with_task, task_first}
use Rattle.pm_meaning.proofs.Sequences.{then_carries, out_same}
use Rattle.pm_meaning.proofs.Choices.{err_map}
use Rattle.pm_perform.proofs.CalmLemmas.{calm_out, calm_end, calm_ready, calm_sure, sure_none, sure_after}
use Rattle.pm_perform.proofs.pipes.do_program.Goals as goal

pub returns-in_err-of_lock-clause-carries : goal.returns-in_err-of_lock-clause-carries
returns-in_err-of_lock-clause-carries g c = (search rules, on_err _ _ (out_anywhere _ _ _ _ refl))

pub returns-in_err-of_text-clause-carries : goal.returns-in_err-of_text-clause-carries
returns-in_err-of_text-clause-carries g c = (search rules, on_err _ _ (out_anywhere _ _ _ _ refl))

pub returns-in_err-ready-clause-carries : goal.returns-in_err-ready-clause-carries
returns-in_err-ready-clause-carries g c =
    let t = task_of c.args.task.now in
    let p = mind_of c.args.run.now.process in
    let reading = reading_of c.args.reading t.text in
    let same = task_first t reading c.as_slice.result.now c.as_slice-2.result.now p (c.as_slice.ensures.value ∙ c.in_ok-of_lock.ensures) (c.as_slice-2.ensures.value ∙ c.in_ok-of_text.ensures) in
    (search rules, on_err _ _ (out_same _ (do_program t reading p) _ _ _ _ same (out_front (make_ready c.as_slice.result.now c.as_slice-2.result.now p) (with_task t reading) _ _ _ _ c.in_err-ready.ensures.carries.1)))

pub returns-clause-carries : goal.returns-clause-carries
returns-clause-carries g c =
    let t = task_of c.args.task.now in
    let p = mind_of c.args.run.now.process in
    let reading = reading_of c.args.reading t.text in
    let same = task_first t reading c.as_slice.result.now c.as_slice-2.result.now p (c.as_slice.ensures.value ∙ c.in_ok-of_lock.ensures) (c.as_slice-2.ensures.value ∙ c.in_ok-of_text.ensures) in
    carried _ (do_program t reading p) _ _ _ _ _ _ same
    (then_carries (make_ready c.as_slice.result.now c.as_slice-2.result.now p) (with_task t reading) (ready_of c.in_ok-ready.ready (mind_of c.make_ready.new.run.process)) _ _ _ _ _ _ _ _
    c.in_ok-ready.ensures.carries.0 c.do_ready.ensures.carries)

pub returns-in_err-of_lock-clause-sure : goal.returns-in_err-of_lock-clause-sure
returns-in_err-of_lock-clause-sure g c = on_err _ _ (sure_none c.args.task.now.flags c.args.run.now.journal c.args.run.now.journal refl)

pub returns-in_err-of_text-clause-sure : goal.returns-in_err-of_text-clause-sure
returns-in_err-of_text-clause-sure g c = on_err _ _ (sure_none c.args.task.now.flags c.args.run.now.journal c.args.run.now.journal refl)

pub returns-in_err-ready-clause-sure : goal.returns-in_err-ready-clause-sure
returns-in_err-ready-clause-sure g c =
    let p = mind_of c.args.run.now.process in
    on_err _ _ (calm_sure c.args.task.now.flags c.args.run.now.journal c.make_ready.new.run.journal (calm_out c.args.task.now.flags (make_ready c.as_slice.result.now c.as_slice-2.result.now p) c.args.run.now.journal c.make_ready.new.run.journal _ _ (calm_ready c.args.task.now.flags c.as_slice.result.now c.as_slice-2.result.now p) c.in_err-ready.ensures.carries.1))

pub returns-clause-sure : goal.returns-clause-sure
returns-clause-sure g c =
    let p = mind_of c.args.run.now.process in
    let calm = calm_end c.args.task.now.flags (make_ready c.as_slice.result.now c.as_slice-2.result.now p) (ready_of c.in_ok-ready.ready (mind_of c.make_ready.new.run.process)) c.args.run.now.journal c.make_ready.new.run.journal _ _ (calm_ready c.args.task.now.flags c.as_slice.result.now c.as_slice-2.result.now p) c.in_ok-ready.ensures.carries.0 in
    err_map c.do_ready.result _ _ (sure_after c.args.task.now.flags c.args.run.now.journal c.make_ready.new.run.journal c.do_ready.new.run.journal calm) c.do_ready.ensures.sure
