use Rattle.std.proofs.Common.{◌≡◌, true, false, sym, ◌∙◌, subst, inl, inr, ⊎_elim, arith}
use Rattle.pm_match.specs.declared.step.Step.TheVariants.{Stop}
use Rattle.pm_match.specs.Labels.{Below}
use Rattle.pm_match.proofs.EdgeLemmas.{read_step, read_byte, stop_on, range_on, go_on, fork_on, take_on, take_on_only, range_of}
use Rattle.pm_match.proofs.anywhere.cross_from.Goals as goal

pub takes_byte-requires : goal.takes_byte-requires
takes_byte-requires c =
    (range_of c.args.steps.now c.args.state _ c.requires.program (read_step c.args.steps.now c.args.state Stop _ c.requires.state c.in-Take.is)).1

pub returns-in-Stop-clause-reached : goal.returns-in-Stop-clause-reached
returns-in-Stop-clause-reached c = λ r v e.
    absurd (stop_on c.args.steps.now c.args.area.now c.args.state c.args.place r (read_step c.args.steps.now c.args.state Stop _ c.requires.state c.in-Stop.is) e)

pub returns-in-Stop-clause-none : goal.returns-in-Stop-clause-none
returns-in-Stop-clause-none c = λ no r e.
    stop_on c.args.steps.now c.args.area.now c.args.state c.args.place r (read_step c.args.steps.now c.args.state Stop _ c.requires.state c.in-Stop.is) e

pub returns-in-Range-clause-reached : goal.returns-in-Range-clause-reached
returns-in-Range-clause-reached c = λ r v e.
    absurd (range_on c.args.steps.now c.args.area.now c.args.state c.args.place _ _ r (read_step c.args.steps.now c.args.state Stop _ c.requires.state c.in-Range.is) e)

pub returns-in-Range-clause-none : goal.returns-in-Range-clause-none
returns-in-Range-clause-none c = λ no r e.
    range_on c.args.steps.now c.args.area.now c.args.state c.args.place _ _ r (read_step c.args.steps.now c.args.state Stop _ c.requires.state c.in-Range.is) e

pub returns-in-Go-clause-reached : goal.returns-in-Go-clause-reached
returns-in-Go-clause-reached c = λ r v e.
    absurd (go_on c.args.steps.now c.args.area.now c.args.state c.args.place _ r (read_step c.args.steps.now c.args.state Stop _ c.requires.state c.in-Go.is) e)

pub returns-in-Go-clause-none : goal.returns-in-Go-clause-none
returns-in-Go-clause-none c = λ no r e.
    go_on c.args.steps.now c.args.area.now c.args.state c.args.place _ r (read_step c.args.steps.now c.args.state Stop _ c.requires.state c.in-Go.is) e

pub returns-in-Fork-clause-reached : goal.returns-in-Fork-clause-reached
returns-in-Fork-clause-reached c = λ r v e.
    absurd (fork_on c.args.steps.now c.args.area.now c.args.state c.args.place _ _ r (read_step c.args.steps.now c.args.state Stop _ c.requires.state c.in-Fork.is) e)

pub returns-in-Fork-clause-none : goal.returns-in-Fork-clause-none
returns-in-Fork-clause-none c = λ no r e.
    fork_on c.args.steps.now c.args.area.now c.args.state c.args.place _ _ r (read_step c.args.steps.now c.args.state Stop _ c.requires.state c.in-Fork.is) e

pub reach-requires-clause-to : goal.reach-requires-clause-to
reach-requires-clause-to c =
    let r = range_of c.args.steps.now c.args.state _ c.requires.program (read_step c.args.steps.now c.args.state Stop _ c.requires.state c.in-Take.is) in
    r.0

pub returns-then-takes_byte-clause-sound : goal.returns-then-takes_byte-clause-sound
returns-then-takes_byte-clause-sound c =
    let is = read_step c.args.steps.now c.args.state Stop _ c.requires.state c.in-Take.is in
    let edge = take_on _ _ _ _ c.in-Take.test _ _ is (read_byte _ _ c.requires.place) (sym c.takes_byte.ensures ∙ c.if-takes_byte.true) in
    λ r v b. ⊎_elim (λ l. inl l) (λ s. inr (record { middle = c.in-Take.to; edge = edge; hops = s.1 })) (c.reach.ensures.sound r v b)

pub returns-then-takes_byte-clause-reached : goal.returns-then-takes_byte-clause-reached
returns-then-takes_byte-clause-reached c = λ r v e.
    let is = read_step c.args.steps.now c.args.state Stop _ c.requires.state c.in-Take.is in
    subst (λ k. Below c.reach.new.labels.of.items k v) (sym (take_on_only _ _ _ _ _ _ r _ is (read_byte _ _ c.requires.place) e).0) (c.reach.ensures.reached v (omega arith))

pub returns-else-takes_byte-clause-reached : goal.returns-else-takes_byte-clause-reached
returns-else-takes_byte-clause-reached c = λ r v e.
    let is = read_step c.args.steps.now c.args.state Stop _ c.requires.state c.in-Take.is in
    let h = (take_on_only _ _ _ _ _ _ r _ is (read_byte _ _ c.requires.place) e).1 in
    let f : false ≡ true = sym c.if-takes_byte.false ∙ c.takes_byte.ensures ∙ h in cc

pub returns-else-takes_byte-clause-none : goal.returns-else-takes_byte-clause-none
returns-else-takes_byte-clause-none c = λ no r e.
    let is = read_step c.args.steps.now c.args.state Stop _ c.requires.state c.in-Take.is in
    let h = (take_on_only _ _ _ _ _ _ r _ is (read_byte _ _ c.requires.place) e).1 in
    let f : false ≡ true = sym c.if-takes_byte.false ∙ c.takes_byte.ensures ∙ h in cc
