use Rattle.std.proofs.Common.{◌≡◌, ◌≤◌, length, refl, subst, rules, arith}
use Rattle.pm_journal.specs.Walking.{Reaches}
use Rattle.pm_meaning.specs.Minds.{mind_of}
use Rattle.pm_meaning.specs.Running.{Running, LeavingFile, step, Event}
use Rattle.pm_run.specs.Frames.{outer_items, block_locks}
use Rattle.pm_run.proofs.RcfileLemmas.{ended_items, ended_falls}
use Rattle.pm_run.proofs.rcfiles.end_file.Goals as goal

pub returns-in-Err-clause-walks : goal.returns-in-Err-clause-walks
returns-in-Err-clause-walks g c = (tt, (c.in-Err.ensures.walks (outer_items c.args.frame.now.outer.items)).1)

pub returns-in-Ok-clause-walks : goal.returns-in-Ok-clause-walks
returns-in-Ok-clause-walks g c =
    let f = c.args.frame.now in
    let after = record f { place = c.len-frame.result; blocks = c.leave_file.new.blocks } in
    let place : c.len-frame.result ≡ length f.code.steps.items = search rules in
    let long : length f.code.steps.items ≤ c.len-frame.result = omega (arith, place) in
    let items = outer_items f.outer.items in
    let start = LeavingFile (block_locks f.blocks.items) items (mind_of c.args.run.now.process) in (
      subst (λ l. Reaches {X = Event} step start (Running l (mind_of c.leave_file.new.run.process)) c.args.run.now.journal c.leave_file.new.run.journal (g.D.Asks.told c.args.run.now.outside) (g.D.Asks.told c.leave_file.new.run.outside))
          (ended_items f after refl long c.in-Ok.ensures.empty refl) (c.in-Ok.ensures.walks items).0,
      tt,
    )

pub returns-in-Ok-clause-falls : goal.returns-in-Ok-clause-falls
returns-in-Ok-clause-falls g c =
    let f = c.args.frame.now in
    let after = record f { place = c.len-frame.result; blocks = c.leave_file.new.blocks } in
    let place : c.len-frame.result ≡ length f.code.steps.items = search rules in
    let long : length f.code.steps.items ≤ c.len-frame.result = omega (arith, place) in
    ended_falls f after c.args.run.now.process.openings c.leave_file.new.run.process.openings c.leave_file.ensures.count refl long c.in-Ok.ensures.empty refl
