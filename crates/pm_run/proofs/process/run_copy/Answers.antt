use Rattle.std.proofs.Common.{map}
use Rattle.pm_meaning.specs.Minds.{mind_of}
use Rattle.pm_meaning.specs.Running.{Running, Over, Closing}
use Rattle.pm_meaning.proofs.Choices.{ok_map, err_map}
use Rattle.pm_run.specs.Nested.{frame_of, items_in}
use Rattle.pm_run.proofs.RunLemmas.{RunsOn, runs_walk, runs_out}
use Rattle.pm_run.proofs.process.run_copy.Goals as goal

pub returns-in-Err-clause-proceeds : goal.returns-in-Err-clause-proceeds
returns-in-Err-clause-proceeds g c = λ first. (tt, (c.in-Err.ensures.proceeds first).1)

pub returns-in-Ok-clause-proceeds : goal.returns-in-Ok-clause-proceeds
returns-in-Ok-clause-proceeds g c =
    let queue = c.args.queue.now in
    let later = c.run_frames.new.queue in
    let start = Running (items_in (map frame_of c.args.frames.items)) (mind_of c.args.run.now.process) in
    let over = Over c.in-Ok.end (mind_of c.run_frames.new.run.process) in
    let runs : RunsOn queue later start over c.args.run.now.journal c.run_frames.new.run.journal (g.D.Asks.told c.args.run.now.outside) (g.D.Asks.told c.run_frames.new.run.outside) =
    λ first. (c.in-Ok.ensures.proceeds first).0 in
    λ first. (
      ok_map c.close.result _ _ (λ ending h. runs_walk queue later start over (Closing ending (mind_of c.close.new.run.process)) c.args.run.now.journal c.run_frames.new.run.journal c.close.new.run.journal _ _ _ runs h first) c.close.ensures.walks.0,
      err_map c.close.result _ _ (λ h. runs_out queue later start over c.args.run.now.journal c.run_frames.new.run.journal c.close.new.run.journal _ _ _ runs h first) c.close.ensures.walks.1,
    )
