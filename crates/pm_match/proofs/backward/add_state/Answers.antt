use Rattle.std.proofs.Common.{◌≡◌, false, get_or, sym, ◌∙◌, subst, arith}
use Rattle.pm_match.proofs.BackwardLemmas.{fewer_missing}
use Rattle.pm_match.proofs.backward.add_state.Goals as goal

pub returns-then-is_new-clause-fewer : goal.returns-then-is_new-clause-fewer
returns-then-is_new-clause-fewer c = λ yes.
    let set = c.args.set.now in
    fewer_missing set.items c.args.state (omega (arith, set.ok.0, c.requires.set, c.requires.state))
    (subst (λ d. get_or set.items c.args.state d ≡ false) c.if-index.false (sym c.index.ensures ∙ c.if-index.false))
