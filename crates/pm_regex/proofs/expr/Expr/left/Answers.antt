use Rattle.std.proofs.Common.{option_map, sym, ◌∙◌, ap}
use Rattle.pm_regex.specs.Postfix.{tree_of}
use Rattle.pm_regex.proofs.ExprLemmas.{left_spelling}
use Rattle.pm_regex.proofs.expr.Expr.left.Goals as goal

pub returns-in-Some : goal.returns-in-Some
returns-in-Some c =
    let os = c.in-Some.ops.items in
    let is = ap (λ o. option_map (λ v. v.items) o) c.in-Some.is in (
      tree_of os,
      sym (ap (λ w. w.left) c.self.view_is) ∙ ap (λ o. option_map tree_of o) is,
      rw c.as_slice.ensures.value (left_spelling _ os is c.self.invariant.0),
    )
