use Rattle.std.proofs.Common.{◌≡◌, Some, true, refl, sym, ◌∙◌, subst, arith}
use Rattle.std.specs.Prelude.{slice_get}
use Rattle.std.proofs.lemmas.Option.{slice_get_read}
use Rattle.pm_match.specs.Backward.{IsExitSet, ReachesExit}
use Rattle.pm_match.proofs.CacheLemmas.{one_mark}
use Rattle.pm_match.proofs.cache.mark_starts.Goals as goal

pub index-requires-in-loop-place : goal.index-requires-in-loop-place
index-requires-in-loop-place c =
    let ready = c.step-at.ensures.ready in
    let sets = c.step-at.new.cache.sets in
    let number = c.step-at.ensures.number.0 in
    let is = slice_get_read sets.items _ _ _ sets.ok.0 (omega (arith, number, ready.spare)) c.index.ensures in
    let size = ready.sets.sets c.step-at.result c.index.result.now is in
    omega (arith, size, ready.made, c.requires.entry)

pub loop-place-init : goal.loop-place-init
loop-place-init c = record {
  above = c.requires.low;
  below = omega arith;
  len = refl;
  ready = c.enter-at.ensures.ready c.args.program.now.steps.items c.args.program.now.exit c.requires.ready;
  at = (
    c.enter-at.ensures.in_use,
    λ s is. subst (λ xs. IsExitSet c.args.program.now.steps.items c.args.area.now c.args.program.now.exit c.args.bounds.high xs)
        (sym (c.enter-at.ensures.is s is ∙ c.deref.ensures.value)) c.requires.after,
  );
  marked = λ k from lt. absurd (omega (arith, from, lt));
}

pub loop-place-preserved : goal.loop-place-preserved
loop-place-preserved c =
    let p = c.args.program.now.steps.items in
    let ready = c.step-at.ensures.ready in
    let number = c.step-at.ensures.number in
    let is_number = number.0 in
    let sets = c.step-at.new.cache.sets in
    let inv = c.loop-place.invariant in
    let is = slice_get_read sets.items _ _ _ sets.ok.0 (omega (arith, is_number, ready.spare)) c.index.ensures in
    let set = c.index.result.now.set in
    let size = ready.sets.sets c.step-at.result c.index.result.now is in
    let bit = slice_get_read set.items _ _ _ set.ok.0 (omega (arith, size, ready.made, c.requires.entry)) c.index-in-loop-place.ensures in
    let exact = number.1 c.index.result.now is c.args.program.now.entry in
    record {
      above = omega (arith, c.loop-place-test.true);
      below = omega (arith, inv.below);
      len = inv.len;
      ready = ready;
      at = number;
      marked = one_mark (λ i. ReachesExit p c.args.area.now c.args.program.now.exit c.args.program.now.entry i) c.args.bounds.low c.loop-place.place c.args.bounds.high
          c.index-in-loop-place.result.now c.loop-place.marks.items c.loop-place-test.true
          (omega (arith, c.loop-place-test.true, inv.below, inv.len, c.requires.room, c.loop-place.marks.ok.0)) (
            (λ yes. exact.0 (subst (λ b. slice_get set.items c.args.program.now.entry ≡ Some b) yes bit)),
            (λ out. let e : Some c.index-in-loop-place.result.now ≡ Some true = sym bit ∙ exact.1 out in cc),
          )
          inv.marked;
    }

pub copy_set-requires : goal.copy_set-requires
copy_set-requires c =
    let inv = c.loop-place.invariant in
    let sets = c.loop-place.cache.sets in
    let number = inv.at.0 in
    let is = slice_get_read sets.items _ _ _ sets.ok.0 (omega (arith, number, inv.ready.spare)) c.index-2.ensures in
    let size = inv.ready.sets.sets c.loop-place.at c.index-2.result.now is in
    omega (arith, size, inv.ready.made, c.deref-2.ensures.len, c.requires.set)

pub returns-clause-set : goal.returns-clause-set
returns-clause-set c =
    let inv = c.loop-place.invariant in
    let sets = c.loop-place.cache.sets in
    let number = inv.at.0 in
    let is = slice_get_read sets.items _ _ _ sets.ok.0 (omega (arith, number, inv.ready.spare)) c.index-2.ensures in
    let size = inv.ready.sets.sets c.loop-place.at c.index-2.result.now is in
    omega (arith, size, inv.ready.made, c.deref-2.ensures.len, c.copy_set.ensures.len)

pub returns-clause-before : goal.returns-clause-before
returns-clause-before c =
    let p = c.args.program.now.steps.items in
    let area = c.args.area.now in
    let exit = c.args.program.now.exit in
    let inv = c.loop-place.invariant in
    let sets = c.loop-place.cache.sets in
    let number = inv.at.0 in
    let is = slice_get_read sets.items _ _ _ sets.ok.0 (omega (arith, number, inv.ready.spare)) c.index-2.ensures in
    let place : c.loop-place.place ≡ c.args.bounds.low = omega (arith, inv.above, c.loop-place-test.false) in
    subst (λ i. IsExitSet p area exit i c.copy_set.new.to.items) place
    (subst (λ xs. IsExitSet p area exit c.loop-place.place xs) (sym (c.copy_set.ensures.same ∙ c.deref-2.ensures.value)) (inv.at.1 c.index-2.result.now is))
