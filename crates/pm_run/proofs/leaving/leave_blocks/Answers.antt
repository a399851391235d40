use Rattle.std.proofs.Common.{◌≡◌, ◌++◌, ◌∙◌, rules, refl, sym, ap, arith}
use Rattle.pm_journal.proofs.WalkJoin.{reaches_itself}
use Rattle.pm_journal.proofs.WantsMemory.{on_err}
use Rattle.pm_meaning.specs.Minds.{mind_of}
use Rattle.pm_meaning.specs.Running.{Leaving, step}
use Rattle.pm_run.specs.Frames.{block_locks, outer_locks, all_locks}
use Rattle.pm_run.proofs.LeaveLemmas.{leave_on, leave_wants, leave_further, leave_over, frame_locks, blocks_left, none_left}
use Rattle.pm_run.proofs.leaving.leave_blocks.Goals as goal

pub loop-open-init : goal.loop-open-init
loop-open-init g c = record { reaches = reaches_itself step _ _ _; count = refl; left = omega arith }

pub returns-in_err-give_maybe-in-Some-clause-walks : goal.returns-in_err-give_maybe-in-Some-clause-walks
returns-in_err-give_maybe-in-Some-clause-walks g c =
    let start = Leaving (all_locks c.args.frame.now) c.args.end (mind_of c.args.run.now.process) in
    let f = c.loop-open.frame in
    let outer = outer_locks f.outer.items in
    let locks = frame_locks f.blocks.items c.pop_front.new.self.items c.in-Some.open outer c.in-Some.ensures.items in
    (search rules, on_err _ _ (leave_wants start (all_locks f) c.args.end (mind_of c.loop-open.run.process) _ _ _ _ c.loop-open.invariant.reaches c.in-Some.open.lock _ _ _ locks c.in_err-give_maybe-in-Some.ensures.carries.1 c.in_err-give_maybe-in-Some.ensures.stuck))

pub loop-open-preserved-in_ok-give_maybe-in-Some : goal.loop-open-preserved-in_ok-give_maybe-in-Some
loop-open-preserved-in_ok-give_maybe-in-Some g c =
    let start = Leaving (all_locks c.args.frame.now) c.args.end (mind_of c.args.run.now.process) in
    let f = c.loop-open.frame in
    let outer = outer_locks f.outer.items in
    let locks = frame_locks f.blocks.items c.pop_front.new.self.items c.in-Some.open outer c.in-Some.ensures.items in
    record {
      reaches = leave_on start (all_locks f) c.args.end (mind_of c.loop-open.run.process) _ _ _ _ c.loop-open.invariant.reaches c.in-Some.open.lock _ (mind_of c.give_maybe.new.run.process) _ _ locks c.in_ok-give_maybe-in-Some.ensures.carries.0;
      count = c.give_maybe.ensures.count ∙ c.loop-open.invariant.count;
      left = blocks_left c.args.frame.now f (record f { blocks = c.pop_front.new.self }) c.in-Some.open c.in-Some.ensures.items refl refl refl c.loop-open.invariant.left;
    }

pub loop-open-preserved-in_ok-give_maybe-in-Some-2 : goal.loop-open-preserved-in_ok-give_maybe-in-Some-2
loop-open-preserved-in_ok-give_maybe-in-Some-2 g c =
    let start = Leaving (all_locks c.args.frame.now) c.args.end (mind_of c.args.run.now.process) in
    let f = c.loop-open.frame in
    let outer = outer_locks f.outer.items in
    let locks = frame_locks f.blocks.items c.pop_front.new.self.items c.in-Some.open outer c.in-Some.ensures.items in
    record {
      reaches = leave_on start (all_locks f) c.args.end (mind_of c.loop-open.run.process) _ _ _ _ c.loop-open.invariant.reaches c.in-Some.open.lock _ (mind_of c.give_maybe.new.run.process) _ _ locks c.in_ok-give_maybe-in-Some.ensures.carries.0;
      count = c.give_maybe.ensures.count ∙ c.loop-open.invariant.count;
      left = blocks_left c.args.frame.now f (record f { blocks = c.pop_front.new.self }) c.in-Some.open c.in-Some.ensures.items refl refl refl c.loop-open.invariant.left;
    }

pub returns-then-not-come_out-clause-walks : goal.returns-then-not-come_out-clause-walks
returns-then-not-come_out-clause-walks g c =
    let start = Leaving (all_locks c.args.frame.now) c.args.end (mind_of c.args.run.now.process) in
    let f = c.loop-open.frame in
    let same : f.blocks.items ≡ c.pop_front.new.self.items = search rules in
    let locks : all_locks c.come_out.new.frame ≡ all_locks f = c.come_out.ensures.locks ∙ ap (λ l. block_locks l ++ outer_locks f.outer.items) (sym same) in
    let none = leave_further start (all_locks f) c.args.end (mind_of c.loop-open.run.process) _ _ _ _ c.loop-open.invariant.reaches (all_locks c.come_out.new.frame) locks in
    (leave_over start (all_locks c.come_out.new.frame) c.args.end (mind_of c.loop-open.run.process) _ _ _ _ none (c.come_out.ensures.last (search rules)), tt)

pub loop-open-preserved : goal.loop-open-preserved
loop-open-preserved g c =
    let start = Leaving (all_locks c.args.frame.now) c.args.end (mind_of c.args.run.now.process) in
    let f = c.loop-open.frame in
    let same : f.blocks.items ≡ c.pop_front.new.self.items = search rules in
    let locks : all_locks c.come_out.new.frame ≡ all_locks f = c.come_out.ensures.locks ∙ ap (λ l. block_locks l ++ outer_locks f.outer.items) (sym same) in
    record {
      reaches = leave_further start (all_locks f) c.args.end (mind_of c.loop-open.run.process) _ _ _ _ c.loop-open.invariant.reaches (all_locks c.come_out.new.frame) locks;
      count = c.loop-open.invariant.count;
      left = none_left c.args.frame.now f (record f { blocks = c.pop_front.new.self }) c.come_out.new.frame same refl refl refl c.come_out.ensures.least c.loop-open.invariant.left;
    }

pub returns-then-not-come_out-clause-left : goal.returns-then-not-come_out-clause-left
returns-then-not-come_out-clause-left g c =
    let f = c.loop-open.frame in
    let same : f.blocks.items ≡ c.pop_front.new.self.items = search rules in
    none_left c.args.frame.now f (record f { blocks = c.pop_front.new.self }) c.come_out.new.frame same refl refl refl c.come_out.ensures.least c.loop-open.invariant.left

pub returns-in_err-give_maybe-in-Some-clause-left : goal.returns-in_err-give_maybe-in-Some-clause-left
returns-in_err-give_maybe-in-Some-clause-left g c = blocks_left c.args.frame.now c.loop-open.frame (record c.loop-open.frame { blocks = c.pop_front.new.self }) c.in-Some.open c.in-Some.ensures.items refl refl refl c.loop-open.invariant.left
