use Rattle.std.proofs.Common.{◌≡◌, ◌⊎◌, ◌<◌, ◌≤◌, sym, ◌∙◌, subst, ⊎_elim, arith}
use Rattle.pm_match.specs.Backward.{Holds, LeadsInto, missing}
use Rattle.pm_match.proofs.CloseLemmas.{or_true, or_false}
use Rattle.pm_match.proofs.BackwardLemmas.{into_out, into_within, true_or_false}
use Rattle.pm_match.proofs.backward.sweep_up.Goals as goal

pub loop-state-preserved : goal.loop-state-preserved
loop-state-preserved c =
    let p = c.args.steps.now in
    let area = c.args.area.now in
    let i = c.args.place in
    let next = c.args.next.now in
    let inv = c.loop-state.invariant in
    let step = c.add_state-is_new.ensures in
    let was = c.loop-state.set.items in
    let now = c.add_state-is_new.new.set.items in
    record {
      kept = λ q h. step.kept q (inv.kept q h);
      sound = λ exit behind here q h. ⊎_elim
          (λ old. inv.sound exit behind here q old)
          (λ new. into_out p area exit i was next behind (inv.sound exit behind here) q new)
          (step.sound q h);
      len = step.len ∙ inv.len;
      lighter = ⊎_elim
          (λ yes. let f = step.fewer yes in omega (arith, f, inv.lighter))
          (λ no. let f = inv.lighter in subst (λ xs. missing xs ≤ missing c.args.set.now.items) (sym (step.same no)) f)
          (true_or_false c.add_state-is_new.result);
      fewer = λ e. ⊎_elim
          (λ old. ⊎_elim
          (λ yes. let f = step.fewer yes in let g = inv.fewer old in omega (arith, f, g))
          (λ no. subst (λ xs. missing xs < missing c.args.set.now.items) (sym (step.same no)) (inv.fewer old))
          (true_or_false c.add_state-is_new.result))
          (λ more. let f = step.fewer more.1 in omega (arith, f, inv.lighter))
          (or_true c.loop-state.is_more c.add_state-is_new.result e);
      closed = λ e q lt h.
          let f = or_false c.loop-state.is_more c.add_state-is_new.result e in
          let same = step.same f.1 in
          let before = subst (λ xs. LeadsInto p area i xs next q) same h in
          let choice : (q < c.loop-state.state) ⊎ (q ≡ c.loop-state.state) = grind (arith, lt) in
          subst (λ xs. Holds xs q) (sym same) (⊎_elim
          (λ less. inv.closed f.0 q less before)
          (λ here. subst (λ k. Holds was k) (sym here) (step.closed f.1 (subst (λ k. LeadsInto p area i was next k) here before)))
          choice);
    }

pub returns-clause-closed : goal.returns-clause-closed
returns-clause-closed c = λ e q h.
    let lt = into_within c.args.steps.now c.args.area.now c.args.place c.loop-state.set.items c.args.next.now q h in
    c.loop-state.invariant.closed e q (omega (arith, lt)) h
