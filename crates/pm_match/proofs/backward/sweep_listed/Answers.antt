use Rattle.std.proofs.Common.{◌≤◌, sym, ◌∙◌, subst, ⊎_elim, arith}
use Rattle.pm_match.specs.Backward.{missing}
use Rattle.pm_match.proofs.BackwardLemmas.{into_out, true_or_false}
use Rattle.pm_match.proofs.backward.sweep_listed.Goals as goal

pub loop-number-preserved : goal.loop-number-preserved
loop-number-preserved c =
    let inv = c.loop-number.invariant in
    let step = c.add_state.ensures in
    record {
      within = omega (arith, inv.within);
      kept = λ q h. step.kept q (inv.kept q h);
      sound = λ exit behind out q h. ⊎_elim
          (λ old. inv.sound exit behind out q old)
          (λ new. into_out c.args.steps.now c.args.area.now exit c.args.place c.loop-number.set.items c.args.next.now behind (inv.sound exit behind out) q new)
          (step.sound q h);
      len = step.len ∙ inv.len;
      lighter = ⊎_elim
          (λ yes. let f = step.fewer yes in omega (arith, f, inv.lighter))
          (λ no. let f = inv.lighter in subst (λ xs. missing xs ≤ missing c.args.set.now.items) (sym (step.same no)) f)
          (true_or_false c.add_state.result);
    }
