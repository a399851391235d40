use Rattle.std.proofs.Common.{Some, None, refl, sym, ◌∙◌, subst}
use Rattle.pm_regex.specs.Re.{nothing, seq}
use Rattle.pm_regex.specs.Postfix.{Spells}
use Rattle.pm_match.specs.Search.{Runs}
use Rattle.pm_regex.specs.Found.{without_cut}
use Rattle.pm_match.specs.Engine.{AreParts}
use Rattle.pm_match.proofs.JoinLemmas.{joined_spells}
use Rattle.pm_match.proofs.engine.Engine.of.Goals as goal

pub invariant_of-result : goal.invariant_of-result
invariant_of-result c =
    let e = c.args.expr in
    let is = c.in-None.ensures in
    record {
      both = subst (λ o. AreParts None o e.right c.args.fold) (sym is) tt;
      one = subst (λ o. Runs c.in_ok-whole-in-None.whole (without_cut o e.right) nothing c.args.fold) (sym is)
          (c.in_ok-whole-in-None.ensures e.right nothing c.right.ensures refl);
    }

pub invariant_of-result-in-Some : goal.invariant_of-result-in-Some
invariant_of-result-in-Some c =
    let e = c.args.expr in
    let h = c.in-Some.ensures in
    let both : Spells c.deref.result.now (seq h.0 e.right) =
    subst (λ os. Spells os (seq h.0 e.right)) (sym (c.deref.ensures.value ∙ c.in_ok-ops-in-Some.ensures))
    (joined_spells c.in-Some.left.now _ h.0 e.right h.2 c.right-in-Some-2.ensures) in
    record {
      both = subst (λ o. AreParts (Some c.in_ok-parts-in-Some.parts) o e.right c.args.fold) (sym h.1)
          (c.in_ok-parts-in-Some.ensures h.0 e.right h.2 c.right-in-Some.ensures);
      one = subst (λ o. Runs c.in_ok-whole-in-Some.whole (without_cut o e.right) nothing c.args.fold) (sym h.1)
          (c.in_ok-whole-in-Some.ensures (seq h.0 e.right) nothing both refl);
    }

pub of-requires-in-Some-2-clause-left_spells : goal.of-requires-in-Some-2-clause-left_spells
of-requires-in-Some-2-clause-left_spells c =
    let e = c.args.expr in
    let h = c.in-Some.ensures in (
      seq h.0 e.right,
      subst (λ os. Spells os (seq h.0 e.right)) (sym (c.deref.ensures.value ∙ c.in_ok-ops-in-Some.ensures))
          (joined_spells c.in-Some.left.now _ h.0 e.right h.2 c.right-in-Some-2.ensures),
    )
