use Rattle.std.proofs.Common.{◌++◌, length, length-append, ap, ◌∙◌, refl, arith}
use Rattle.pm_match.proofs.ListLemmas.{put_bounded, put_kept, put_set, put_met}
use Rattle.pm_match.proofs.sets.put.Goals as goal

pub returns-clause-bounded : goal.returns-clause-bounded
returns-clause-bounded c =
    let sets = c.args.sets.now in
    let e2 = c.list.ensures.items ∙ ap (λ x. sets.states.items ++ x) c.deref.ensures.value in
    put_bounded sets.spans.items sets.states.items c.args.states.now.items c.requires.bounded _ (omega (arith, c.len-start.ensures, sets.states.ok.0))
    (omega (arith, c.len-end.ensures, c.list.new.all.ok.0, ap length e2, length-append sets.states.items c.args.states.now.items))
    _ _ c.push_reserved.ensures.items e2 (omega (arith, c.requires.few, sets.spans.ok.0))

pub returns-clause-kept : goal.returns-clause-kept
returns-clause-kept c =
    let sets = c.args.sets.now in
    let e2 = c.list.ensures.items ∙ ap (λ x. sets.states.items ++ x) c.deref.ensures.value in
    put_kept sets.spans.items sets.states.items c.args.states.now.items c.requires.bounded _ (omega (arith, c.len-start.ensures, sets.states.ok.0))
    (omega (arith, c.len-end.ensures, c.list.new.all.ok.0, ap length e2, length-append sets.states.items c.args.states.now.items))
    _ _ c.push_reserved.ensures.items e2

pub returns-clause-met : goal.returns-clause-met
returns-clause-met c = λ p entry exit met none.
    let sets = c.args.sets.now in
    let e2 = c.list.ensures.items ∙ ap (λ x. sets.states.items ++ x) c.deref.ensures.value in
    put_met sets.spans.items sets.states.items c.args.states.now.items c.requires.bounded _ (omega (arith, c.len-start.ensures, sets.states.ok.0))
    (omega (arith, c.len-end.ensures, c.list.new.all.ok.0, ap length e2, length-append sets.states.items c.args.states.now.items))
    _ _ c.push_reserved.ensures.items e2 p entry exit sets.links.items met none

pub returns-clause-number : goal.returns-clause-number
returns-clause-number c =
    let sets = c.args.sets.now in
    let e2 = c.list.ensures.items ∙ ap (λ x. sets.states.items ++ x) c.deref.ensures.value in
    put_set sets.spans.items sets.states.items c.args.states.now.items c.requires.bounded _ (omega (arith, c.len-start.ensures, sets.states.ok.0))
    (omega (arith, c.len-end.ensures, c.list.new.all.ok.0, ap length e2, length-append sets.states.items c.args.states.now.items))
    _ _ c.push_reserved.ensures.items e2 c.args.goes_on c.len-number.result (omega (arith, c.len-number.ensures, sets.spans.ok.0)) refl
