use Rattle.std.proofs.Common.{◌≡◌, sym, ◌∙◌, subst, arith}
use Rattle.std.proofs.lemmas.Option.{slice_get_read}
use Rattle.pm_match.specs.Backward.{IsExitSet}
use Rattle.pm_match.proofs.cache.go_back.Goals as goal

pub loop-place-init : goal.loop-place-init
loop-place-init c = record {
  above = c.requires.low;
  below = omega arith;
  ready = c.enter-at.ensures.ready c.args.program.now.steps.items c.args.program.now.exit c.requires.ready;
  at = (
    c.enter-at.ensures.in_use,
    λ s is. subst (λ xs. IsExitSet c.args.program.now.steps.items c.args.area.now c.args.program.now.exit c.args.bounds.high xs)
        (sym (c.enter-at.ensures.is s is ∙ c.deref.ensures.value)) c.requires.after,
  );
}

pub loop-place-preserved : goal.loop-place-preserved
loop-place-preserved c = record {
  above = omega (arith, c.loop-place-test.true);
  below = omega (arith, c.loop-place.invariant.below);
  ready = c.step-at.ensures.ready;
  at = c.step-at.ensures.number;
}

pub copy_set-requires : goal.copy_set-requires
copy_set-requires c =
    let inv = c.loop-place.invariant in
    let sets = c.loop-place.cache.sets in
    let number = inv.at.0 in
    let is = slice_get_read sets.items _ _ _ sets.ok.0 (omega (arith, number, inv.ready.spare)) c.index.ensures in
    let size = inv.ready.sets.sets c.loop-place.at c.index.result.now is in
    omega (arith, size, inv.ready.made, c.deref-2.ensures.len, c.requires.set)

pub returns-clause-set : goal.returns-clause-set
returns-clause-set c =
    let inv = c.loop-place.invariant in
    let sets = c.loop-place.cache.sets in
    let number = inv.at.0 in
    let is = slice_get_read sets.items _ _ _ sets.ok.0 (omega (arith, number, inv.ready.spare)) c.index.ensures in
    let size = inv.ready.sets.sets c.loop-place.at c.index.result.now is in
    omega (arith, size, inv.ready.made, c.deref-2.ensures.len, c.copy_set.ensures.len)

pub returns-clause-before : goal.returns-clause-before
returns-clause-before c =
    let p = c.args.program.now.steps.items in
    let area = c.args.area.now in
    let exit = c.args.program.now.exit in
    let inv = c.loop-place.invariant in
    let sets = c.loop-place.cache.sets in
    let number = inv.at.0 in
    let is = slice_get_read sets.items _ _ _ sets.ok.0 (omega (arith, number, inv.ready.spare)) c.index.ensures in
    let place : c.loop-place.place ≡ c.args.bounds.low = omega (arith, inv.above, c.loop-place-test.false) in
    subst (λ i. IsExitSet p area exit i c.copy_set.new.to.items) place
    (subst (λ xs. IsExitSet p area exit c.loop-place.place xs) (sym (c.copy_set.ensures.same ∙ c.deref-2.ensures.value)) (inv.at.1 c.index.result.now is))
