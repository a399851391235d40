use Rattle.std.proofs.Common.{◌≤◌, ◌+◌, refl, sym, ap, length, arith}
use Rattle.pm_recipe.specs.View.{top_of}
use Rattle.pm_meaning.specs.Changes.{with_openings}
use Rattle.pm_meaning.specs.Minds.{mind_of}
use Rattle.pm_meaning.specs.Running.{Running}
use Rattle.pm_meaning.proofs.Choices.{ok_map}
use Rattle.pm_run.specs.Frames.{steps_of, items_of, left_over}
use Rattle.pm_run.specs.Walk.{after_gate, after_statement}
use Rattle.pm_run.proofs.RunLemmas.{lifted_out, proceeds_on, walks_on, walks_run}
use Rattle.pm_run.proofs.WalkLemmas.{ends_stop, step_in, none_in, enter_at, jump_at, jump_fits, gate_wants, gate_reaches, falls_from, over_falls, one_falls, one_wants, one_reaches, does_one}
use Rattle.pm_run.proofs.walk.step_frame.Goals as goal

pub end_innermost-requires : goal.end_innermost-requires
end_innermost-requires g c = record { ends = ends_stop (steps_of c.args.frame.now) c.args.frame.now.place (none_in c.args.frame.now.code.steps.items c.deref.result.now c.args.frame.now.place c.in-None.ensures c.deref.ensures.value) }

pub overflow_add-behind : goal.overflow_add-behind
overflow_add-behind g c =
    let f = c.args.frame.now in
    let at = step_in c.in-Some.step.now f.code.steps.items c.deref.result.now f.place c.in-Some.ensures c.deref.ensures.value in
    let e = enter_at f c.in-Some.step.now c.in-Enter.recipe c.in-Enter.end at c.in-Enter.is in
    let jump = jump_at f (top_of c.in-Enter.recipe) c.in-Enter.end e in
    let fits = jump_fits f c.in-Enter.end _ jump in
    omega (arith, fits, c.deref.type_inv.0, ap length c.deref.ensures.value)

pub enter_block-requires-clause-further : goal.enter_block-requires-clause-further
enter_block-requires-clause-further g c =
    let f = c.args.frame.now in
    let at = step_in c.in-Some.step.now f.code.steps.items c.deref.result.now f.place c.in-Some.ensures c.deref.ensures.value in
    let e = enter_at f c.in-Some.step.now c.in-Enter.recipe c.in-Enter.end at c.in-Enter.is in
    let jump = jump_at f (top_of c.in-Enter.recipe) c.in-Enter.end e in
    omega (arith, jump.further)

pub enter_block-requires-clause-within : goal.enter_block-requires-clause-within
enter_block-requires-clause-within g c =
    let f = c.args.frame.now in
    let at = step_in c.in-Some.step.now f.code.steps.items c.deref.result.now f.place c.in-Some.ensures c.deref.ensures.value in
    let e = enter_at f c.in-Some.step.now c.in-Enter.recipe c.in-Enter.end at c.in-Enter.is in
    let jump = jump_at f (top_of c.in-Enter.recipe) c.in-Enter.end e in
    let fits = jump_fits f c.in-Enter.end _ jump in
    omega (arith, fits)

pub enter_block-requires-clause-over : goal.enter_block-requires-clause-over
enter_block-requires-clause-over g c =
    let f = c.args.frame.now in
    let at = step_in c.in-Some.step.now f.code.steps.items c.deref.result.now f.place c.in-Some.ensures c.deref.ensures.value in
    let e = enter_at f c.in-Some.step.now c.in-Enter.recipe c.in-Enter.end at c.in-Enter.is in
    let jump = jump_at f (top_of c.in-Enter.recipe) c.in-Enter.end e in
    sym jump.behind

pub returns-in-None-clause-proceeds : goal.returns-in-None-clause-proceeds
returns-in-None-clause-proceeds g c =
    walks_run c.args.queue.now (Running (items_of c.args.frame.now) (mind_of c.args.run.now.process)) _ c.end_innermost.result _ _ _ _ c.end_innermost.ensures.walks

pub returns-in-Leave-clause-proceeds : goal.returns-in-Leave-clause-proceeds
returns-in-Leave-clause-proceeds g c =
    walks_run c.args.queue.now (Running (items_of c.args.frame.now) (mind_of c.args.run.now.process)) _ c.end_innermost-in-Leave.result _ _ _ _ c.end_innermost-in-Leave.ensures.walks

pub returns-in-Err-clause-proceeds : goal.returns-in-Err-clause-proceeds
returns-in-Err-clause-proceeds g c =
    let f = c.args.frame.now in
    let at = step_in c.in-Some.step.now f.code.steps.items c.deref.result.now f.place c.in-Some.ensures c.deref.ensures.value in
    let e = enter_at f c.in-Some.step.now c.in-Enter.recipe c.in-Enter.end at c.in-Enter.is in
    let p = mind_of c.args.run.now.process in
    λ first. (tt, lifted_out c.args.queue.now (Running (items_of f) p) _ _ _ _ (gate_wants f (top_of c.in-Enter.recipe) c.in-Enter.end p e _ _ _ _ c.in-Err.ensures.carries.1) first)

pub returns-in-Ok-clause-proceeds : goal.returns-in-Ok-clause-proceeds
returns-in-Ok-clause-proceeds g c =
    let f = c.args.frame.now in
    let at = step_in c.in-Some.step.now f.code.steps.items c.deref.result.now f.place c.in-Some.ensures c.deref.ensures.value in
    let e = enter_at f c.in-Some.step.now c.in-Enter.recipe c.in-Enter.end at c.in-Enter.is in
    let top = top_of c.in-Enter.recipe in
    let p = mind_of c.args.run.now.process in
    let q = mind_of c.pass_gate.new.run.process in
    let jump = jump_at f top c.in-Enter.end e in
    let to = after_gate (c.in-Enter.end + 1) c.in-Ok.gate f (with_openings c.args.run.now.process.openings q) in
    proceeds_on c.args.queue.now c.enter_block.new.queue (Running (items_of f) p) to _ c.enter_block.result _ _ _ _ _ _
    (gate_reaches f top c.in-Enter.end p e c.in-Ok.gate q c.args.run.now.journal c.pass_gate.new.run.journal (g.D.Asks.told c.args.run.now.outside) (g.D.Asks.told c.pass_gate.new.run.outside) jump c.in-Ok.ensures.carries.0) c.enter_block.ensures.proceeds

pub returns-in-Err-run_statement-clause-proceeds : goal.returns-in-Err-run_statement-clause-proceeds
returns-in-Err-run_statement-clause-proceeds g c =
    let f = c.args.frame.now in
    let at = step_in c.in-Some.step.now f.code.steps.items c.deref.result.now f.place c.in-Some.ensures c.deref.ensures.value in
    let d = does_one c.in-Some.step.now c.in_default.not-Enter c.in_default.not-Leave in
    let p = mind_of c.args.run.now.process in
    λ first. (tt, lifted_out c.args.queue.now (Running (items_of f) p) _ _ _ _ (one_wants f c.in-Some.step.now p at d _ _ _ _ c.in-Err-run_statement.ensures.carries.1 c.in-Err-run_statement.ensures.sure) first)

pub returns-in-Ok-run_statement-clause-proceeds : goal.returns-in-Ok-run_statement-clause-proceeds
returns-in-Ok-run_statement-clause-proceeds goals c =
    let f = c.args.frame.now in
    let at = step_in c.in-Some.step.now f.code.steps.items c.deref.result.now f.place c.in-Some.ensures c.deref.ensures.value in
    let d = does_one c.in-Some.step.now c.in_default.not-Enter c.in_default.not-Leave in
    let p = mind_of c.args.run.now.process in
    let q = mind_of c.run_statement.new.run.process in
    let start = Running (items_of f) p in
    let to = after_statement c.in-Ok-run_statement.turned (record f { place = f.place + 1 }) (with_openings c.args.run.now.process.openings q) in
    let goes = one_reaches f c.in-Some.step.now p at d c.in-Ok-run_statement.turned q c.args.run.now.journal c.run_statement.new.run.journal (goals.D.Asks.told c.args.run.now.outside) (goals.D.Asks.told c.run_statement.new.run.outside) c.in-Ok-run_statement.ensures.carries.0 in
    walks_run c.args.queue.now start _ c.take_turn.result _ _ _ _ (walks_on start to _ c.take_turn.result _ _ _ _ _ _ goes c.take_turn.ensures.walks)

pub returns-in-Ok-run_statement-clause-falls : goal.returns-in-Ok-run_statement-clause-falls
returns-in-Ok-run_statement-clause-falls g c =
    let f = c.args.frame.now in
    let at = step_in c.in-Some.step.now f.code.steps.items c.deref.result.now f.place c.in-Some.ensures c.deref.ensures.value in
    let count = c.args.run.now.process.openings in
    let after = record f { place = f.place + 1 } in
    let less : left_over count after + 1 ≤ left_over count f = omega (arith, over_falls count count f after refl (one_falls f at.fits)) in
    let left = left_over c.take_turn.new.run.process.openings c.take_turn.new.frame in
    ok_map c.take_turn.result _ _ (λ flow h. falls_from flow left (left_over count after + 1) (left_over count f) h less) c.take_turn.ensures.falls
