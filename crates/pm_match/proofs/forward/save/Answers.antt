use Rattle.std.proofs.Common.{ℕ, true, ⊎_elim, arith}
use Rattle.std.proofs.lemmas.Option.{slice_get_within}
use Rattle.pm_match.specs.Labels.{Below}
use Rattle.pm_match.proofs.BackwardLemmas.{true_or_false}
use Rattle.pm_match.proofs.RunLemmas.{one_state}
use Rattle.pm_match.proofs.forward.save.Goals as goal

pub loop-state-preserved : goal.loop-state-preserved
loop-state-preserved c =
    let inv = c.loop-state.invariant in
    let labels = c.args.labels.now.of.items in
    record {
      len = omega (arith, inv.len);
      exact = one_state (λ q. (v : ℕ) × Below labels q v) c.loop-state.state c.is_reached.result c.loop-state.set.items
          (omega (arith, c.loop-state-test.true, c.len-state-end.ensures, inv.len, c.loop-state.set.ok.0)) (
            c.is_reached.ensures.yes,
            (λ b. ⊎_elim (λ yes. yes) (λ no. absurd (c.is_reached.ensures.no no b.0 b.1)) (true_or_false c.is_reached.result)),
          )
          inv.exact;
    }

pub returns-clause-exact : goal.returns-clause-exact
returns-clause-exact c = λ q.
    let inv = c.loop-state.invariant in
    let set = c.loop-state.set in
    let labels = c.args.labels.now.of in (
      (λ h.
          let within = slice_get_within set.items q true h in
          (inv.exact q (omega (arith, within, inv.len, c.loop-state-test.false, c.len-state-end.ensures, set.ok.0))).0 h),
      (λ b.
          let within = slice_get_within labels.items q _ b.1.is in
          (inv.exact q (omega (arith, within, labels.ok.0, c.requires, inv.len, c.loop-state-test.false, c.len-state-end.ensures))).1 b),
    )
