use Rattle.std.proofs.Common.{◌≡◌, [], ◌∙◌, map, refl, sym, ap}
use Rattle.pm_journal.proofs.WantsMemory.{out_anywhere}
use Rattle.pm_meaning.specs.Minds.{mind_of}
use Rattle.pm_meaning.specs.Running.{Running, Over, step}
use Rattle.pm_meaning.proofs.Choices.{ok_map, err_map}
use Rattle.pm_run.specs.Nested.{frame_of, items_in}
use Rattle.pm_run.specs.RunningOut.{MayRunOut}
use Rattle.pm_run.proofs.CopyLemmas.{items_as_frames}
use Rattle.pm_run.proofs.MayLemmas.{may_at_once}
use Rattle.pm_run.proofs.RunLemmas.{lifted, lifted_out}
use Rattle.pm_run.proofs.RunOutLemmas.{ran_out_at_once}
use Rattle.pm_run.proofs.remaining.run_frames.Goals as goal

pub returns-in-Ok-None-clause-proceeds : goal.returns-in-Ok-None-clause-proceeds
returns-in-Ok-None-clause-proceeds g c =
    let queue = c.args.queue.now in
    let start = Running [] (mind_of c.args.run.now.process) in
    let none : items_in (map frame_of c.args.frames.items) ≡ [] = sym (ap items_in (rw c.in-Ok-None.field-0-is at c.in-Ok-None.ensures)) in
    λ first. rw none (
      ok_map c.fall_off.result _ _ (λ end h. lifted queue start (Over end (mind_of c.fall_off.new.run.process)) _ _ _ _ h first) c.fall_off.ensures.walks.0,
      err_map c.fall_off.result _ _ (λ h. lifted_out queue start _ _ _ _ h first) c.fall_off.ensures.walks.1,
    )

pub returns-in-Ok-Some-clause-proceeds : goal.returns-in-Ok-Some-clause-proceeds
returns-in-Ok-Some-clause-proceeds g c = λ first.
    let same = sym (items_as_frames c.in-Ok-Some.frame) ∙ ap items_in (rw c.in-Ok-Some.field-0-is at c.in-Ok-Some.ensures) in
    rw same at c.run_frame-ended.ensures.proceeds first

pub returns-in-Err-clause-proceeds : goal.returns-in-Err-clause-proceeds
returns-in-Err-clause-proceeds g c =
    let items = items_in (map frame_of c.args.frames.items) in
    let p = mind_of c.args.run.now.process in
    let start = Running items p in
    let x = c.args.run.now.journal in
    let a = g.D.Asks.told c.args.run.now.outside in
    λ first. (tt, lifted_out c.args.queue.now start x x a a (ran_out_at_once step MayRunOut start x x a a (out_anywhere (step start) x x a refl) (may_at_once items p x)) first)
