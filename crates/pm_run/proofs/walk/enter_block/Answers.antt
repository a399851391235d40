use Rattle.std.proofs.Common.{◌≡◌, ◌<◌, ◌+◌, refl, sym, ap, rules, arith, length, drop}
use Rattle.pm_code.specs.Ahead.{lists_of}
use Rattle.pm_journal.proofs.WantsMemory.{on_err}
use Rattle.pm_meaning.specs.Blocks.{begun_block}
use Rattle.pm_meaning.specs.Minds.{mind_of}
use Rattle.pm_meaning.specs.Chains.{with_chain}
use Rattle.pm_meaning.specs.Running.{Running, Leaving}
use Rattle.pm_run.specs.Frames.{weave, items_of, steps_of, outer_items, all_locks}
use Rattle.pm_run.specs.Walk.{items_inside}
use Rattle.pm_run.proofs.RunLemmas.{runs_itself, runs_same, lifted_out, walks_run}
use Rattle.pm_run.proofs.WalkLemmas.{item_wants, passed_falls, entered_falls, over_falls}
use Rattle.pm_run.proofs.walk.enter_block.Goals as goal

pub returns-in-Passes-clause-proceeds : goal.returns-in-Passes-clause-proceeds
returns-in-Passes-clause-proceeds g c =
    let f = c.args.frame.now in
    rw c.in-Passes.is (λ first. (runs_itself c.args.queue.now (Running (items_of (record f { place = c.args.behind })) (mind_of c.args.run.now.process)) c.args.run.now.journal (g.D.Asks.told c.args.run.now.outside) first, tt))

pub returns-in-Passes-clause-falls : goal.returns-in-Passes-clause-falls
returns-in-Passes-clause-falls g c =
    let f = c.args.frame.now in
    let count = c.args.run.now.process.openings in
    over_falls count count f (record f { place = c.args.behind }) refl (passed_falls f c.args.behind c.requires.further c.requires.within)

pub returns-in-Halts-clause-proceeds : goal.returns-in-Halts-clause-proceeds
returns-in-Halts-clause-proceeds g c =
    rw c.in-Halts.is (walks_run c.args.queue.now (Leaving (all_locks c.args.frame.now) c.in-Halts.end (mind_of c.args.run.now.process)) _ c.halt.result _ _ _ _ c.halt.ensures.walks)

pub make_clone-requires-clause-behind : goal.make_clone-requires-clause-behind
make_clone-requires-clause-behind g c = λ blocks rest. ap (λ l. weave l blocks rest) c.requires.over

pub returns-in_err-make_clone-in-Clones-clause-proceeds : goal.returns-in_err-make_clone-in-Clones-clause-proceeds
returns-in_err-make_clone-in-Clones-clause-proceeds g c = rw c.in-Clones.is (λ first. (search rules, on_err _ _ (c.in_err-make_clone-in-Clones.ensures.proceeds first).1))

pub returns-in_ok-make_clone-in-Clones-clause-proceeds : goal.returns-in_ok-make_clone-in-Clones-clause-proceeds
returns-in_ok-make_clone-in-Clones-clause-proceeds g c = rw c.in-Clones.is (λ first. ((c.in_ok-make_clone-in-Clones.ensures.proceeds first).0, tt))

pub returns-in_ok-make_clone-in-Clones-clause-falls : goal.returns-in_ok-make_clone-in-Clones-clause-falls
returns-in_ok-make_clone-in-Clones-clause-falls g c =
    let f = c.args.frame.now in
    over_falls c.args.run.now.process.openings c.make_clone.new.run.process.openings f (record f { place = c.args.behind }) c.make_clone.ensures.count (passed_falls f c.args.behind c.requires.further c.requires.within)

pub returns-in_err-push_front-in-Enters-clause-proceeds : goal.returns-in_err-push_front-in-Enters-clause-proceeds
returns-in_err-push_front-in-Enters-clause-proceeds g c =
    let f = c.args.frame.now in
    let p = mind_of c.args.run.now.process in
    let items = items_inside c.in-Enters.lock p.chain f in
    rw c.in-Enters.is (λ first. (search rules, on_err _ _ (lifted_out c.args.queue.now (Running items (begun_block p)) c.args.run.now.journal c.args.run.now.journal (g.D.Asks.told c.args.run.now.outside) (g.D.Asks.told c.args.run.now.outside) (item_wants items (begun_block p) _ _) first)))

pub returns-in_ok-push_front-in-Enters-clause-proceeds : goal.returns-in_ok-push_front-in-Enters-clause-proceeds
returns-in_ok-push_front-in-Enters-clause-proceeds g c =
    let f = c.args.frame.now in
    let p = mind_of c.args.run.now.process in
    let after = record f { place = f.place + 1; blocks = c.push_front.new.self } in
    let inside : items_inside c.in-Enters.lock p.chain f ≡ items_of after =
    ap (λ l. weave (lists_of (drop (f.place + 1) (steps_of f))) l (outer_items f.outer.items)) (sym c.in_ok-push_front-in-Enters.ensures.items) in
    let mind : begun_block p ≡ with_chain c.new_chain-run.result p = ap (λ k. with_chain k p) (sym c.new_chain-run.ensures) in
    rw c.in-Enters.is (λ first. (runs_same c.args.queue.now (items_inside c.in-Enters.lock p.chain f) (items_of after) (begun_block p) (with_chain c.new_chain-run.result p) c.args.run.now.journal (g.D.Asks.told c.args.run.now.outside) inside mind first, tt))

pub returns-in_ok-push_front-in-Enters-clause-falls : goal.returns-in_ok-push_front-in-Enters-clause-falls
returns-in_ok-push_front-in-Enters-clause-falls g c =
    let f = c.args.frame.now in
    let count = c.args.run.now.process.openings in
    let room : f.place < length f.code.steps.items = omega (arith, c.requires.further, c.requires.within) in
    over_falls count count f (record f { place = f.place + 1; blocks = c.push_front.new.self }) refl (entered_falls f (record f { place = f.place + 1; blocks = c.push_front.new.self }) _ room refl refl c.in_ok-push_front-in-Enters.ensures.items refl)
