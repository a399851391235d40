use Rattle.std.proofs.Common.{[], rules, arith}
use Rattle.pm_journal.proofs.WantsMemory.{on_err}
use Rattle.pm_meaning.specs.Minds.{mind_of}
use Rattle.pm_meaning.specs.Running.{Running, Over}
use Rattle.pm_meaning.proofs.Choices.{ok_map, err_map}
use Rattle.pm_run.specs.Frames.{items_of}
use Rattle.pm_run.proofs.RunLemmas.{RunsOn, runs_itself, runs_run, runs_break, runs_walk, runs_out}
use Rattle.pm_run.proofs.walk.run_frame.Goals as goal

pub loop-end-init : goal.loop-end-init
loop-end-init g c = record { runs = runs_itself c.args.queue.now (Running (items_of c.args.frame.now) (mind_of c.args.run.now.process)) _ _; few = omega arith }

pub returns-in_err-step_frame-clause-proceeds : goal.returns-in_err-step_frame-clause-proceeds
returns-in_err-step_frame-clause-proceeds g c =
    let start = Running (items_of c.args.frame.now) (mind_of c.args.run.now.process) in
    let now = Running (items_of c.loop-end.frame) (mind_of c.loop-end.run.process) in
    λ first. (search rules, on_err _ _ (runs_break c.args.queue.now c.loop-end.queue start now _ _ _ _ _ _ c.loop-end.invariant.runs (λ f. (c.in_err-step_frame.ensures.proceeds f).1) first))

pub loop-end-preserved : goal.loop-end-preserved
loop-end-preserved g c =
    let start = Running (items_of c.args.frame.now) (mind_of c.args.run.now.process) in
    let now = Running (items_of c.loop-end.frame) (mind_of c.loop-end.run.process) in
    let next = Running (items_of c.step_frame.new.frame) (mind_of c.step_frame.new.run.process) in
    record {
      runs = runs_run c.args.queue.now c.loop-end.queue c.step_frame.new.queue start now next _ _ _ _ _ _ c.loop-end.invariant.runs (λ f. rw c.in-Continue.is at (c.in_ok-step_frame.ensures.proceeds f).0);
      few = omega (arith, c.step_frame.ensures.few, c.loop-end.invariant.few);
    }

pub loop-end-smaller : goal.loop-end-smaller
loop-end-smaller g c = rw c.in-Continue.is at c.in_ok-step_frame.ensures.falls

pub returns-in-Break-Some-clause-proceeds : goal.returns-in-Break-Some-clause-proceeds
returns-in-Break-Some-clause-proceeds g c =
    let start = Running (items_of c.args.frame.now) (mind_of c.args.run.now.process) in
    let now = Running (items_of c.loop-end.frame) (mind_of c.loop-end.run.process) in
    let end = Over c.in-Break-Some.end (mind_of c.step_frame.new.run.process) in
    λ first. (runs_run c.args.queue.now c.loop-end.queue c.step_frame.new.queue start now end _ _ _ _ _ _ c.loop-end.invariant.runs (λ f. rw (c.in-Break-Some.is, c.in-Break-Some.field-0-is) at (c.in_ok-step_frame.ensures.proceeds f).0) first, tt)

pub returns-in-Break-None-clause-proceeds : goal.returns-in-Break-None-clause-proceeds
returns-in-Break-None-clause-proceeds g c =
    let queue = c.args.queue.now in
    let later = c.step_frame.new.queue in
    let start = Running (items_of c.args.frame.now) (mind_of c.args.run.now.process) in
    let now = Running (items_of c.loop-end.frame) (mind_of c.loop-end.run.process) in
    let left = Running [] (mind_of c.step_frame.new.run.process) in
    let runs : RunsOn queue later start left c.args.run.now.journal c.step_frame.new.run.journal (g.D.Asks.told c.args.run.now.outside) (g.D.Asks.told c.step_frame.new.run.outside) =
    runs_run queue c.loop-end.queue later start now left _ _ _ _ _ _ c.loop-end.invariant.runs (λ f. rw (c.in-Break-None.is, c.in-Break-None.field-0-is) at (c.in_ok-step_frame.ensures.proceeds f).0) in
    λ first. (
      ok_map c.fall_off.result _ _ (λ end h. runs_walk queue later start left (Over end (mind_of c.fall_off.new.run.process)) c.args.run.now.journal c.step_frame.new.run.journal c.fall_off.new.run.journal _ _ _ runs h first) c.fall_off.ensures.walks.0,
      err_map c.fall_off.result _ _ (λ h. runs_out queue later start left c.args.run.now.journal c.step_frame.new.run.journal c.fall_off.new.run.journal _ _ _ runs h first) c.fall_off.ensures.walks.1,
    )
