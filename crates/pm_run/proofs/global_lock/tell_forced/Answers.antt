use Rattle.std.proofs.Common.{◌≡◌, true, false, refl, rules}
use Rattle.std.specs.Prelude.{nat_lt}
use Rattle.pm_journal.specs.LogText.{forcing_lock_line}
use Rattle.pm_journal.specs.Plan.{Ends}
use Rattle.pm_journal.proofs.WantsMemory.{on_err, out_anywhere, executes_nothing}
use Rattle.pm_meaning.specs.Minds.{mind_of}
use Rattle.pm_meaning.specs.Turns.{GoesOn, say_then}
use Rattle.pm_meaning.proofs.Choices.{then_out, choose_then, choose_else, line_told, line_out}
use Rattle.pm_run.proofs.global_lock.tell_forced.Goals as goal

pub returns-in_err-line-clause-carries : goal.returns-in_err-line-clause-carries
returns-in_err-line-clause-carries g c = (search rules, on_err _ _ (out_anywhere _ _ _ _ refl))

pub returns-in_err-tell-clause-carries : goal.returns-in_err-tell-clause-carries
returns-in_err-tell-clause-carries g c =
    let p = mind_of c.args.run.now.process in
    let e : nat_lt 0 c.args.forced ≡ true = search rules in
    (search rules, on_err _ _ (then_out (nat_lt 0 c.args.forced) (say_then p (forcing_lock_line c.args.name.now) (GoesOn p)) (Ends (GoesOn p)) _ _ _ _ e (line_out p (forcing_lock_line c.args.name.now) _ (GoesOn p) _ _ _ _ c.in_ok-line.ensures c.in_err-tell.ensures.carries.1)))

pub returns-then-forced-eq0-clause-carries : goal.returns-then-forced-eq0-clause-carries
returns-then-forced-eq0-clause-carries g c =
    let p = mind_of c.args.run.now.process in
    let e : nat_lt 0 c.args.forced ≡ false = search rules in
    (choose_else (nat_lt 0 c.args.forced) (say_then p (forcing_lock_line c.args.name.now) (GoesOn p)) (Ends (GoesOn p)) (GoesOn p) _ _ _ _ e (executes_nothing (GoesOn p) _ _ _ refl), tt)

pub returns-clause-carries : goal.returns-clause-carries
returns-clause-carries g c =
    let p = mind_of c.args.run.now.process in
    let e : nat_lt 0 c.args.forced ≡ true = search rules in
    rw c.tell.ensures.same (choose_then (nat_lt 0 c.args.forced) (say_then p (forcing_lock_line c.args.name.now) (GoesOn p)) (Ends (GoesOn p)) (GoesOn p) _ _ _ _ e (line_told p (forcing_lock_line c.args.name.now) _ (GoesOn p) _ _ _ _ c.in_ok-line.ensures c.in_ok-tell.ensures.carries.0), tt)
