use Rattle.std.proofs.Common.{⊎_elim, arith}
use Rattle.pm_match.specs.declared.step.Step.TheVariants.{Stop}
use Rattle.pm_match.proofs.EdgeLemmas.{read_step, go_edge, fork_first, fork_second, take_edge, take_on, range_of}
use Rattle.pm_match.proofs.CloseLemmas.{or_true}
use Rattle.pm_match.proofs.BackwardLemmas.{held_read, read_held, true_or, or_true_too, into_here, into_next, stop_into, range_into, go_into, fork_into, take_into}
use Rattle.pm_match.proofs.backward.leads_into.Goals as goal

pub bounds-set-to : goal.bounds-set-to
bounds-set-to c =
    let r = range_of c.args.steps.now c.args.state _ c.requires.program (read_step c.args.steps.now c.args.state Stop _ c.requires.state c.in-Go.is) in
    omega (arith, r, c.requires.set)

pub bounds-set-first : goal.bounds-set-first
bounds-set-first c =
    let r = range_of c.args.steps.now c.args.state _ c.requires.program (read_step c.args.steps.now c.args.state Stop _ c.requires.state c.in-Fork.is) in
    omega (arith, r.0, c.requires.set)

pub bounds-set-second : goal.bounds-set-second
bounds-set-second c =
    let r = range_of c.args.steps.now c.args.state _ c.requires.program (read_step c.args.steps.now c.args.state Stop _ c.requires.state c.in-Fork.is) in
    omega (arith, r.1, c.requires.set)

pub takes_into-is_taken-requires : goal.takes_into-is_taken-requires
takes_into-is_taken-requires c =
    let r = range_of c.args.steps.now c.args.state _ c.requires.program (read_step c.args.steps.now c.args.state Stop _ c.requires.state c.in-Take.is) in
    record { ranges = r.1 }

pub bounds-set-to-in-Take : goal.bounds-set-to-in-Take
bounds-set-to-in-Take c =
    let r = range_of c.args.steps.now c.args.state _ c.requires.program (read_step c.args.steps.now c.args.state Stop _ c.requires.state c.in-Take.is) in
    let below = r.0 in omega (arith, below, c.requires.set)

pub bounds-next-to : goal.bounds-next-to
bounds-next-to c =
    let r = range_of c.args.steps.now c.args.state _ c.requires.program (read_step c.args.steps.now c.args.state Stop _ c.requires.state c.in-Take.is) in
    let below = r.0 in omega (arith, below, c.requires.next)

pub returns-in-Stop-clause-whole : goal.returns-in-Stop-clause-whole
returns-in-Stop-clause-whole c = λ h.
    absurd (stop_into c.args.steps.now c.args.area.now c.args.place c.args.set.now c.args.next.now c.args.state
    (read_step c.args.steps.now c.args.state Stop _ c.requires.state c.in-Stop.is) h)

pub returns-in-Range-clause-whole : goal.returns-in-Range-clause-whole
returns-in-Range-clause-whole c = λ h.
    absurd (range_into c.args.steps.now c.args.area.now c.args.place c.args.set.now c.args.next.now c.args.state _ _
    (read_step c.args.steps.now c.args.state Stop _ c.requires.state c.in-Range.is) h)

pub returns-in-Go-clause-sound : goal.returns-in-Go-clause-sound
returns-in-Go-clause-sound c = λ e.
    let is = read_step c.args.steps.now c.args.state Stop _ c.requires.state c.in-Go.is in
    let r = range_of c.args.steps.now c.args.state _ c.requires.program is in
    into_here c.args.steps.now c.args.area.now c.args.place c.args.set.now c.args.next.now c.args.state c.in-Go.to
    (go_edge _ _ _ _ _ is) (held_read c.args.set.now c.in-Go.to (omega (arith, r, c.requires.set)) e)

pub returns-in-Go-clause-whole : goal.returns-in-Go-clause-whole
returns-in-Go-clause-whole c = λ h.
    read_held c.args.set.now c.in-Go.to (go_into c.args.steps.now c.args.area.now c.args.place c.args.set.now c.args.next.now c.args.state _
    (read_step c.args.steps.now c.args.state Stop _ c.requires.state c.in-Go.is) h)

pub returns-in-Fork-clause-sound : goal.returns-in-Fork-clause-sound
returns-in-Fork-clause-sound c = λ e.
    let is = read_step c.args.steps.now c.args.state Stop _ c.requires.state c.in-Fork.is in
    let r = range_of c.args.steps.now c.args.state _ c.requires.program is in
    ⊎_elim
    (λ one. into_here c.args.steps.now c.args.area.now c.args.place c.args.set.now c.args.next.now c.args.state c.in-Fork.first
    (fork_first _ _ _ _ _ _ is) (held_read c.args.set.now c.in-Fork.first (omega (arith, r.0, c.requires.set)) one))
    (λ two. into_here c.args.steps.now c.args.area.now c.args.place c.args.set.now c.args.next.now c.args.state c.in-Fork.second
    (fork_second _ _ _ _ _ _ is) (held_read c.args.set.now c.in-Fork.second (omega (arith, r.1, c.requires.set)) two.1))
    (or_true _ _ e)

pub returns-in-Fork-clause-whole : goal.returns-in-Fork-clause-whole
returns-in-Fork-clause-whole c = λ h.
    ⊎_elim
    (λ one. true_or _ _ (read_held c.args.set.now c.in-Fork.first one))
    (λ two. or_true_too _ _ (read_held c.args.set.now c.in-Fork.second two))
    (fork_into c.args.steps.now c.args.area.now c.args.place c.args.set.now c.args.next.now c.args.state _ _
    (read_step c.args.steps.now c.args.state Stop _ c.requires.state c.in-Fork.is) h)

pub returns-in-Take-clause-sound : goal.returns-in-Take-clause-sound
returns-in-Take-clause-sound c = λ e.
    let is = read_step c.args.steps.now c.args.state Stop _ c.requires.state c.in-Take.is in
    let r = range_of c.args.steps.now c.args.state _ c.requires.program is in
    let below = r.0 in
    ⊎_elim
    (λ one.
    let both = c.passes_into-is_passed.ensures.sound one in
    into_here c.args.steps.now c.args.area.now c.args.place c.args.set.now c.args.next.now c.args.state c.in-Take.to
    (take_edge _ _ _ _ _ _ is both.1) (held_read c.args.set.now c.in-Take.to (omega (arith, below, c.requires.set)) both.0))
    (λ two.
    let taken = c.takes_into-is_taken.ensures.sound two.1 in
    into_next c.args.steps.now c.args.area.now c.args.place c.args.set.now c.args.next.now c.args.state c.in-Take.to
    (take_on _ _ _ _ _ _ taken.1 is taken.2 taken.3) (held_read c.args.next.now c.in-Take.to (omega (arith, below, c.requires.next)) taken.0))
    (or_true _ _ e)

pub returns-in-Take-clause-whole : goal.returns-in-Take-clause-whole
returns-in-Take-clause-whole c = λ h.
    ⊎_elim
    (λ one. true_or _ _ (c.passes_into-is_passed.ensures.whole (read_held c.args.set.now c.in-Take.to one.1) one.0))
    (λ two. or_true_too _ _ (c.takes_into-is_taken.ensures.whole two.0 (read_held c.args.next.now c.in-Take.to two.3) two.1 two.2))
    (take_into c.args.steps.now c.args.area.now c.args.place c.args.set.now c.args.next.now c.args.state _ _
    (read_step c.args.steps.now c.args.state Stop _ c.requires.state c.in-Take.is) h)
