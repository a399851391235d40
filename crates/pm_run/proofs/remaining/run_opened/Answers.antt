use Rattle.std.proofs.Common.{[]}
use Rattle.pm_meaning.specs.Minds.{mind_of}
use Rattle.pm_meaning.specs.Running.{Running, Over}
use Rattle.pm_meaning.proofs.Choices.{ok_map, err_map}
use Rattle.pm_run.proofs.OpeningLemmas.{begun_frame}
use Rattle.pm_run.proofs.RunLemmas.{runs_itself, lifted, lifted_out}
use Rattle.pm_run.proofs.remaining.run_opened.Goals as goal

pub returns-in-Continue-Some-clause-proceeds : goal.returns-in-Continue-Some-clause-proceeds
returns-in-Continue-Some-clause-proceeds g c = rw (c.in-Continue-Some.is, c.in-Continue-Some.field-0-is) (λ first.
    let f = c.begin_frame-frame.ensures in
    rw (begun_frame c.begin_frame-frame.result c.in-Continue-Some.code f.place f.code f.blocks f.outer) at c.run_frame-ended.ensures.proceeds first)

pub returns-in-Break-clause-proceeds : goal.returns-in-Break-clause-proceeds
returns-in-Break-clause-proceeds g c = rw c.in-Break.is (λ first. (runs_itself c.args.queue.now (Over c.in-Break.end (mind_of c.args.run.now.process)) c.args.run.now.journal (g.D.Asks.told c.args.run.now.outside) first, tt))

pub returns-in-Continue-None-clause-proceeds : goal.returns-in-Continue-None-clause-proceeds
returns-in-Continue-None-clause-proceeds g c =
    let queue = c.args.queue.now in
    let start = Running [] (mind_of c.args.run.now.process) in
    rw (c.in-Continue-None.is, c.in-Continue-None.field-0-is) (λ first. (
      ok_map c.fall_off.result _ _ (λ end h. lifted queue start (Over end (mind_of c.fall_off.new.run.process)) _ _ _ _ h first) c.fall_off.ensures.walks.0,
      err_map c.fall_off.result _ _ (λ h. lifted_out queue start _ _ _ _ h first) c.fall_off.ensures.walks.1,
    ))
