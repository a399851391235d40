use Rattle.std.proofs.Common.{[], refl, rules, ◌∙◌}
use Rattle.pm_journal.proofs.WantsMemory.{on_err, out_anywhere, out_front}
use Rattle.pm_meaning.specs.Delivering.{make_ready}
use Rattle.pm_meaning.specs.Minds.{mind_of}
use Rattle.pm_meaning.specs.ProgramActions.{write_task, write_out}
use Rattle.pm_meaning.specs.Ready.{ready_of}
use Rattle.pm_meaning.proofs.Choices.{carried}
use Rattle.pm_perform.proofs.PipeLemmas.{with_write, write_first}
use Rattle.pm_meaning.proofs.Sequences.{then_carries, out_same}
use Rattle.pm_meaning.proofs.Choices.{err_map}
use Rattle.pm_perform.proofs.CalmLemmas.{calm_out, calm_end, calm_ready, calm_sure, sure_none, sure_after}
use Rattle.pm_perform.proofs.pipes.write_out.Goals as goal

pub returns-in_err-commands-clause-carries : goal.returns-in_err-commands-clause-carries
returns-in_err-commands-clause-carries g c = (search rules, on_err _ _ (out_anywhere _ _ _ _ refl))

pub returns-in_err-ready-clause-carries : goal.returns-in_err-ready-clause-carries
returns-in_err-ready-clause-carries g c =
    let p = mind_of c.args.run.now.process in
    let flags = c.args.flags in
    let lock = c.args.lock.now in
    let same = write_first flags lock c.as_slice.result.now [] p (c.as_slice.ensures.value ∙ c.in_ok-commands.ensures) refl in
    (search rules, on_err _ _ (out_same _ (write_out flags lock p) _ _ _ _ same (out_front (make_ready c.as_slice.result.now [] p) (with_write (write_task flags lock)) _ _ _ _ c.in_err-ready.ensures.carries.1)))

pub returns-clause-carries : goal.returns-clause-carries
returns-clause-carries g c =
    let p = mind_of c.args.run.now.process in
    let flags = c.args.flags in
    let lock = c.args.lock.now in
    let same = write_first flags lock c.as_slice.result.now [] p (c.as_slice.ensures.value ∙ c.in_ok-commands.ensures) refl in
    carried _ (write_out flags lock p) _ _ _ _ _ _ same
    (then_carries (make_ready c.as_slice.result.now [] p) (with_write (write_task flags lock)) (ready_of c.in_ok-ready.ready (mind_of c.make_ready.new.run.process)) _ _ _ _ _ _ _ _
    c.in_ok-ready.ensures.carries.0 c.write_ready.ensures.carries)

pub returns-in_err-commands-clause-sure : goal.returns-in_err-commands-clause-sure
returns-in_err-commands-clause-sure g c = on_err _ _ (sure_none c.args.flags c.args.run.now.journal c.args.run.now.journal refl)

pub returns-in_err-ready-clause-sure : goal.returns-in_err-ready-clause-sure
returns-in_err-ready-clause-sure g c =
    let p = mind_of c.args.run.now.process in
    on_err _ _ (calm_sure c.args.flags c.args.run.now.journal c.make_ready.new.run.journal (calm_out c.args.flags (make_ready c.as_slice.result.now [] p) c.args.run.now.journal c.make_ready.new.run.journal _ _ (calm_ready c.args.flags c.as_slice.result.now [] p) c.in_err-ready.ensures.carries.1))

pub returns-clause-sure : goal.returns-clause-sure
returns-clause-sure g c =
    let p = mind_of c.args.run.now.process in
    let calm = calm_end c.args.flags (make_ready c.as_slice.result.now [] p) (ready_of c.in_ok-ready.ready (mind_of c.make_ready.new.run.process)) c.args.run.now.journal c.make_ready.new.run.journal _ _ (calm_ready c.args.flags c.as_slice.result.now [] p) c.in_ok-ready.ensures.carries.0 in
    err_map c.write_ready.result _ _ (sure_after c.args.flags c.args.run.now.journal c.make_ready.new.run.journal c.write_ready.new.run.journal calm) c.write_ready.ensures.sure
