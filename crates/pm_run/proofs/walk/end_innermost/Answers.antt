use Rattle.std.proofs.Common.{◌≡◌, ◌+◌, ◌-◌, ◌*◌, ◌^◌, [], length, drop, rules, refl, sym, ap, subst}
use Rattle.pm_code.specs.Ahead.{lists_of}
use Rattle.pm_journal.specs.Walking.{Reaches}
use Rattle.pm_journal.proofs.WantsMemory.{on_err}
use Rattle.pm_meaning.specs.Chains.{with_chain}
use Rattle.pm_meaning.specs.Minds.{mind_of}
use Rattle.pm_meaning.specs.Running.{Running, step, Event}
use Rattle.pm_meaning.proofs.Choices.{ok_map}
use Rattle.pm_run.specs.Frames.{weave, steps_of, items_of, outer_items, left_outside, left_over}
use Rattle.pm_run.specs.Walk.{after_item, Falls}
use Rattle.pm_run.proofs.WalkLemmas.{block_wants, block_reaches, back_reaches, item_wants, back_falls}
use Rattle.pm_run.proofs.walk.end_innermost.Goals as goal

pub returns-in-None-clause-walks : goal.returns-in-None-clause-walks
returns-in-None-clause-walks g c =
    let old = c.args.frame.now in
    let f = record old { blocks = c.pop_front.new.self } in
    let p = mind_of c.args.run.now.process in
    let same : old.blocks.items ≡ c.pop_front.new.self.items = search rules in
    let none : f.blocks.items ≡ [] = search rules in
    let items : items_of f ≡ items_of old = ap (λ l. weave (lists_of (drop old.place (steps_of old))) l (outer_items old.outer.items)) (sym same) in (
      ok_map c.come_back.result _ _ (λ flow h. subst (λ l. Reaches {X = Event} step (Running l p) (after_item flow (items_of c.come_back.new.frame) (mind_of c.come_back.new.process)) c.args.run.now.journal c.args.run.now.journal (g.D.Asks.told c.args.run.now.outside) (g.D.Asks.told c.args.run.now.outside))
          items (back_reaches flow f c.come_back.new.frame c.args.next p (mind_of c.come_back.new.process) _ _ c.requires.ends none h)) c.come_back.ensures.back,
      on_err c.come_back.result _ (item_wants (items_of old) p _ _),
    )

pub returns-in-None-clause-falls : goal.returns-in-None-clause-falls
returns-in-None-clause-falls g c =
    let old = c.args.frame.now in
    let f = record old { blocks = c.pop_front.new.self } in
    let same : old.blocks.items ≡ c.pop_front.new.self.items = search rules in
    let none : f.blocks.items ≡ [] = search rules in
    let count = c.args.run.now.process.openings in
    let after = c.come_back.new.process.openings in
    let left : left_over count f ≡ left_over count old = ap (λ l. (256 - count) * 2 ^ 66 + (2 * (length old.code.steps.items - old.place) + length l + left_outside old.outer.items)) (sym same) in
    ok_map c.come_back.result _ _ (λ flow h. subst (λ n. Falls flow (left_over after c.come_back.new.frame) n) left
    (back_falls flow count after f c.come_back.new.frame (mind_of c.args.run.now.process) (mind_of c.come_back.new.process) c.come_back.ensures.count none h)) c.come_back.ensures.back

pub returns-in_err-give_maybe-in-Some-clause-walks : goal.returns-in_err-give_maybe-in-Some-clause-walks
returns-in_err-give_maybe-in-Some-clause-walks g c =
    (search rules, on_err _ _ (block_wants c.args.frame.now c.in-Some.open c.pop_front.new.self.items c.args.next (mind_of c.args.run.now.process) c.requires.ends c.in-Some.ensures.items _ _ _ _ c.in_err-give_maybe-in-Some.ensures.carries.1))

pub returns-in_ok-give_maybe-in-Some-clause-walks : goal.returns-in_ok-give_maybe-in-Some-clause-walks
returns-in_ok-give_maybe-in-Some-clause-walks g c =
    let q = mind_of c.give_maybe.new.run.process in (
      block_reaches c.args.frame.now c.in-Some.open c.pop_front.new.self.items c.args.next (mind_of c.args.run.now.process) c.requires.ends c.in-Some.ensures.items (record c.args.frame.now { place = c.args.next; blocks = c.pop_front.new.self }) q (with_chain c.succeed-run.result q) _ _ _ _ refl refl refl refl (ap (λ chain. with_chain chain q) c.succeed-run.ensures) c.in_ok-give_maybe-in-Some.ensures.carries.0,
      tt,
    )
