use Rattle.std.proofs.Common.{◌≡◌, ◌∷◌, false, refl, subst, arith}
use Rattle.pm_regex.specs.Re.{nothing}
use Rattle.pm_match.specs.Finding.{IsFirst}
use Rattle.pm_regex.specs.Found.{IsRun, place_after}
use Rattle.pm_match.specs.Shown.{shown_match}
use Rattle.pm_match.proofs.CountLemmas.{goes, ordered, run_none, run_late, run_more}
use Rattle.pm_match.proofs.MarkLemmas.{to_end}
use Rattle.pm_match.proofs.count.after.Goals as goal

pub returns-in-None-clause-counted : goal.returns-in-None-clause-counted
returns-in-None-clause-counted c = λ e fold h by.
    let none = subst (λ x. IsFirst fold e nothing c.args.area.now c.args.from.place x) c.in-None.is (h) in
    to_end fold e c.args.area.now c.args.from.count c.args.from.place _ refl by (run_none fold e c.args.area.now c.args.from.place none)

pub returns-then-found-area-clause-counted : goal.returns-then-found-area-clause-counted
returns-then-found-area-clause-counted c = λ e fold h by.
    let some = subst (λ x. IsFirst fold e nothing c.args.area.now c.args.from.place x) c.in-Some.is (h) in
    to_end fold e c.args.area.now c.args.from.count c.args.from.place _ refl by (run_late fold e c.args.area.now c.args.from.place c.in-Some.found some c.if-found-area.true)

pub returns-else-found-area-clause-after : goal.returns-else-found-area-clause-after
returns-else-found-area-clause-after c =
    let r = c.requires.found in
    let some = subst (λ x. IsFirst r.2 r.1 nothing c.args.area.now c.args.from.place x) c.in-Some.is r.4 in
    let g = goes r.2 r.1 c.args.area.now c.args.from.place c.in-Some.found some c.if-found-area.false (ordered r.0 r.2 r.1 c.args.area.now c.args.from.place c.in-Some.found r.3 some) in
    let a = g.after in omega (arith, a, c.next_place.ensures)

pub returns-else-found-area-clause-few : goal.returns-else-found-area-clause-few
returns-else-found-area-clause-few c =
    let r = c.requires.found in
    let some = subst (λ x. IsFirst r.2 r.1 nothing c.args.area.now c.args.from.place x) c.in-Some.is r.4 in
    let g = goes r.2 r.1 c.args.area.now c.args.from.place c.in-Some.found some c.if-found-area.false (ordered r.0 r.2 r.1 c.args.area.now c.args.from.place c.in-Some.found r.3 some) in
    let a = g.after in omega (arith, a, c.next_place.ensures, c.requires.few)

pub returns-else-found-area-clause-within : goal.returns-else-found-area-clause-within
returns-else-found-area-clause-within c =
    let r = c.requires.found in
    let some = subst (λ x. IsFirst r.2 r.1 nothing c.args.area.now c.args.from.place x) c.in-Some.is r.4 in
    let g = goes r.2 r.1 c.args.area.now c.args.from.place c.in-Some.found some c.if-found-area.false (ordered r.0 r.2 r.1 c.args.area.now c.args.from.place c.in-Some.found r.3 some) in
    let a = g.within in omega (arith, a, c.next_place.ensures)

pub returns-else-found-area-clause-counted : goal.returns-else-found-area-clause-counted
returns-else-found-area-clause-counted c = λ e fold h by rest run.
    let m = c.in-Some.found in
    let place : c.next_place.result ≡ place_after m.start m.end = c.next_place.ensures in
    let some = subst (λ x. IsFirst fold e nothing c.args.area.now c.args.from.place x) c.in-Some.is (h) in
    let r = by (shown_match false m ∷ rest)
    (run_more fold e c.args.area.now c.args.from.place m rest c.if-found-area.false some (subst (λ k. IsRun fold e c.args.area.now k rest) place run)) in
    let n = r.2 in (r.0, r.1, omega (arith, n))
