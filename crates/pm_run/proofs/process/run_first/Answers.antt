use Rattle.std.proofs.Common.{rules}
use Rattle.pm_journal.proofs.WantsMemory.{on_err}
use Rattle.pm_meaning.specs.FirstValues.{home_folder}
use Rattle.pm_meaning.specs.Minds.{mind_of}
use Rattle.pm_meaning.specs.Running.{Setting, Over, Closing, home_by}
use Rattle.pm_meaning.proofs.Choices.{ok_map, err_map}
use Rattle.pm_run.specs.Ends.{opened_at}
use Rattle.pm_run.proofs.OpeningLemmas.{opened_reaches}
use Rattle.pm_run.proofs.RunLemmas.{RunsOn, lifted, lifted_out, runs_run, runs_break, runs_walk, runs_out}
use Rattle.pm_run.proofs.process.run_first.Goals as goal

pub returns-in_err-opened-clause-proceeds : goal.returns-in_err-opened-clause-proceeds
returns-in_err-opened-clause-proceeds g c =
    let line = c.args.line.now in
    let start = Setting line.values line (home_by line.values (home_folder c.args.env.now)) (mind_of c.args.run.now.process) in
    λ first. (search rules, on_err _ _ (lifted_out c.args.queue.now start _ _ _ _ c.in_err-opened.ensures.memory first))

pub returns-in-Ok-clause-proceeds : goal.returns-in-Ok-clause-proceeds
returns-in-Ok-clause-proceeds g c =
    let line = c.args.line.now in
    let start = Setting line.values line (home_by line.values (home_folder c.args.env.now)) (mind_of c.args.run.now.process) in
    let queue = c.args.queue.now in
    let later = c.run_opened.new.queue in
    let p = mind_of c.begin_rcfiles.new.run.process in
    let at = opened_at c.in_ok-opened.opened p in
    let over = Over c.in-Ok.end (mind_of c.run_opened.new.run.process) in
    let x = c.args.run.now.journal in
    let y = c.begin_rcfiles.new.run.journal in
    let z = c.run_opened.new.run.journal in
    let a = g.D.Asks.told c.args.run.now.outside in
    let b = g.D.Asks.told c.begin_rcfiles.new.run.outside in
    let e = g.D.Asks.told c.run_opened.new.run.outside in
    let began = lifted queue start at x y a b (opened_reaches start c.in_ok-opened.opened p x y a b c.in_ok-opened.ensures.opens) in
    let went : RunsOn queue later at over y z b e = λ first. (rw c.in-Ok.is at c.run_opened.ensures.proceeds first).0 in
    let runs : RunsOn queue later start over x z a e = runs_run queue queue later start at over x y z a b e began went in
    λ first. (
      ok_map c.close.result _ _ (λ ending h. runs_walk queue later start over (Closing ending (mind_of c.close.new.run.process)) x z c.close.new.run.journal _ _ _ runs h first) c.close.ensures.walks.0,
      err_map c.close.result _ _ (λ h. runs_out queue later start over x z c.close.new.run.journal _ _ _ runs h first) c.close.ensures.walks.1,
    )

pub returns-in-Err-clause-proceeds : goal.returns-in-Err-clause-proceeds
returns-in-Err-clause-proceeds g c =
    let line = c.args.line.now in
    let start = Setting line.values line (home_by line.values (home_folder c.args.env.now)) (mind_of c.args.run.now.process) in
    let queue = c.args.queue.now in
    let p = mind_of c.begin_rcfiles.new.run.process in
    let at = opened_at c.in_ok-opened.opened p in
    let x = c.args.run.now.journal in
    let y = c.begin_rcfiles.new.run.journal in
    let z = c.run_opened.new.run.journal in
    let a = g.D.Asks.told c.args.run.now.outside in
    let b = g.D.Asks.told c.begin_rcfiles.new.run.outside in
    let e = g.D.Asks.told c.run_opened.new.run.outside in
    let began = lifted queue start at x y a b (opened_reaches start c.in_ok-opened.opened p x y a b c.in_ok-opened.ensures.opens) in
    λ first. (tt, runs_break queue queue start at x y z a b e began (λ was. (rw c.in-Err.is at c.run_opened.ensures.proceeds was).1) first)
