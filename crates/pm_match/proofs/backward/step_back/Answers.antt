use Rattle.std.proofs.Common.{refl, sym, subst, ◌+◌, ◌∙◌, ⊎_elim, arith}
use Rattle.std.proofs.lemmas.Option.{slice_get_within}
use Rattle.pm_match.specs.Backward.{AllReachExit, IsClosedBackward}
use Rattle.pm_match.proofs.BackwardLemmas.{set_held, set_only, out_held}
use Rattle.pm_match.proofs.backward.step_back.Goals as goal

pub loop-init : goal.loop-init
loop-init c =
    let set = c.loop-state.set in
    let exit = c.args.program.now.exit in
    record {
      len = c.loop-state.invariant.len ∙ c.requires.set;
      final = set_held set.items exit (omega (arith, set.ok.0, c.loop-state.invariant.len, c.requires.set, c.requires.exit));
      sound = λ q h. ⊎_elim
          (λ old.
          let low = c.loop-state.invariant.none q old in
          let high = slice_get_within set.items q _ old in
          absurd (omega (arith, low, high, set.ok.0, c.loop-state.invariant.len, c.requires.set)))
          (λ here. record { end = c.args.place; count = 0; run = (here, refl) })
          (set_only set.items exit q h);
    }

pub loop-preserved : goal.loop-preserved
loop-preserved c =
    let area = c.args.area.now in
    let exit = c.args.program.now.exit in
    let next = c.args.next.now in
    let same = c.deref.ensures.value in
    record {
      len = c.sweep_both.ensures.len ∙ c.loop.invariant.len;
      final = c.sweep_both.ensures.kept exit c.loop.invariant.final;
      sound = subst (λ ps. AllReachExit ps area exit c.args.place c.sweep_both.new.set.items) same
          (c.sweep_both.ensures.sound exit
          (λ lt. subst (λ ps. AllReachExit ps area exit (c.args.place + 1) next) (sym same) (λ q h. (c.requires.next lt q).0 h))
          (subst (λ ps. AllReachExit ps area exit c.args.place c.loop.set.items) (sym same) c.loop.invariant.sound));
    }

pub returns-clause-back : goal.returns-clause-back
returns-clause-back c =
    let ps = c.args.program.now.steps.items in
    let area = c.args.area.now in
    let exit = c.args.program.now.exit in
    let next = c.args.next.now in
    let set = c.sweep_both.new.set.items in
    let same = c.deref.ensures.value in
    let sound : AllReachExit ps area exit c.args.place set = subst (λ xs. AllReachExit xs area exit c.args.place set) same
    (c.sweep_both.ensures.sound exit
    (λ lt. subst (λ xs. AllReachExit xs area exit (c.args.place + 1) next) (sym same) (λ q h. (c.requires.next lt q).0 h))
    (subst (λ xs. AllReachExit xs area exit c.args.place c.loop.set.items) (sym same) c.loop.invariant.sound)) in
    let closed = subst (λ xs. IsClosedBackward xs area c.args.place set next) same (c.sweep_both.ensures.closed c.loop-test.false) in
    λ q. (
      sound q,
      λ out. out_held ps area exit c.args.place set next c.requires.next
          (c.sweep_both.ensures.kept exit c.loop.invariant.final) closed out.count out.end q out.run,
    )
