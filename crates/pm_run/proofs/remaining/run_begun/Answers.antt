use Rattle.std.proofs.Common.{reverse}
use Rattle.pm_meaning.specs.Minds.{mind_of}
use Rattle.pm_meaning.specs.Running.{Opening, Over}
use Rattle.pm_meaning.proofs.Choices.{ok_map, err_map}
use Rattle.pm_run.specs.Ends.{opened_at, rule_of_opening}
use Rattle.pm_run.proofs.OpeningLemmas.{opened_reaches}
use Rattle.pm_run.proofs.RunLemmas.{lifted, lifted_out, runs_here, breaks_here}
use Rattle.pm_run.proofs.remaining.run_begun.Goals as goal

pub returns-in-Ok-clause-proceeds : goal.returns-in-Ok-clause-proceeds
returns-in-Ok-clause-proceeds g c =
    let start = Opening (rule_of_opening c.in-Opens.rule) (reverse c.in-Opens.names.items) (mind_of c.args.run.now.process) in
    let queue = c.args.queue.now in
    let later = c.run_opened.new.queue in
    let p = mind_of c.open_first.new.run.process in
    let at = opened_at c.in-Ok.opened p in
    let x = c.args.run.now.journal in
    let y = c.open_first.new.run.journal in
    let z = c.run_opened.new.run.journal in
    let a = g.D.Asks.told c.args.run.now.outside in
    let b = g.D.Asks.told c.open_first.new.run.outside in
    let e = g.D.Asks.told c.run_opened.new.run.outside in
    let began = lifted queue start at x y a b (opened_reaches start c.in-Ok.opened p x y a b c.in-Ok.ensures.opens) in
    rw c.in-Opens.is (λ first. (
      ok_map c.run_opened.result _ _ (λ end h. runs_here queue later start at (Over end (mind_of c.run_opened.new.run.process)) x y z a b e began first h) (c.run_opened.ensures.proceeds first).0,
      err_map c.run_opened.result _ _ (λ h. breaks_here queue start at x y z a b e began first h) (c.run_opened.ensures.proceeds first).1,
    ))

pub returns-in-Err-clause-proceeds : goal.returns-in-Err-clause-proceeds
returns-in-Err-clause-proceeds g c =
    let start = Opening (rule_of_opening c.in-Opens.rule) (reverse c.in-Opens.names.items) (mind_of c.args.run.now.process) in
    rw c.in-Opens.is (λ first. (tt, lifted_out c.args.queue.now start _ _ _ _ c.in-Err.ensures.memory first))

pub returns-in-GoesOn-clause-proceeds : goal.returns-in-GoesOn-clause-proceeds
returns-in-GoesOn-clause-proceeds g c = rw c.in-GoesOn.is c.run_frames.ensures.proceeds
