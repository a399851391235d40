use Rattle.std.proofs.Common.{◌≡◌, ◌⊎◌, ◌<◌, sym, subst, ⊎_elim, arith}
use Rattle.pm_match.specs.Starts.{Excluded}
use Rattle.pm_match.proofs.starts.next_byte.Goals as goal

pub loop-place-preserved : goal.loop-place-preserved
loop-place-preserved c = record {
  after = omega arith;
  within = omega arith;
  excluded = λ i low high.
      let choice : (i < c.loop-place.place) ⊎ (i ≡ c.loop-place.place) = grind (arith, high) in
      ⊎_elim
      (λ old. c.loop-place.invariant.excluded i low old)
      (λ same. subst (λ k. Excluded c.args.starts.now c.args.area.now k) (sym same) (c.is_excluded.ensures c.if-not-is_excluded.false))
      choice;
}
