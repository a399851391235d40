use Rattle.std.proofs.Common.{◌≡◌, ◌⊎◌, ◌<◌, true, ⊎_elim, sym, subst, arith}
use Rattle.std.proofs.lemmas.Option.{slice_get_within}
use Rattle.pm_match.specs.Labels.{Below}
use Rattle.pm_match.specs.Backward.{Holds}
use Rattle.pm_match.proofs.forward.load.Goals as goal

pub loop-state-init : goal.loop-state-init
loop-state-init c = record {
  len = omega (arith, c.clear.ensures.len, c.requires);
  sound = λ q v b. absurd (c.clear.ensures.none q v b);
  whole = λ q less. absurd (omega (arith, less));
}

pub loop-state-preserved : goal.loop-state-preserved
loop-state-preserved c =
    let inv = c.loop-state.invariant in
    record {
      len = omega (arith, c.load_state.ensures.len, inv.len);
      sound = λ q v b. ⊎_elim (λ old. inv.sound q v old) (λ now. now.1) (c.load_state.ensures.sound q v b);
      whole = λ q less h.
          let choice : (q < c.loop-state.state) ⊎ (q ≡ c.loop-state.state) = grind (arith, less) in
          ⊎_elim
          (λ old. let b = inv.whole q old h in (b.0, c.load_state.ensures.kept q b.0 b.1))
          (λ same.
          let b = c.load_state.ensures.whole (subst (λ k. Holds c.args.set.now k) same h) in
          (b.0, subst (λ k. Below c.load_state.new.labels.of.items k b.0) (sym same) b.1))
          choice;
    }

pub returns-clause-whole : goal.returns-clause-whole
returns-clause-whole c = λ q h.
    let within = slice_get_within c.args.set.now q true h in
    c.loop-state.invariant.whole q (omega (arith, within, c.loop-state-test.false)) h
