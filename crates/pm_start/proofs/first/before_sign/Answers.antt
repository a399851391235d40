use Rattle.std.proofs.Common.{◌+◌, ◌≤◌, ◌∷◌, ◌++◌, length, take, sym, ap, ◌∙◌, subst, arith}
use Rattle.std.proofs.lemmas.List.{take_all, take_rest}
use Rattle.pm_start.specs.Entry.{Lacks}
use Rattle.pm_start.proofs.Cut.{lacks_before, cut_there}
use Rattle.pm_start.proofs.first.before_sign.Goals as goal

pub returns-in_default-clause-none : goal.returns-in_default-clause-none
returns-in_default-clause-none c =
    let bytes = c.args.bytes.now in
    let whole : length bytes ≤ length bytes = omega arith in
    λ none. subst (Lacks c.args.sign) (take_all (length bytes) bytes whole) (lacks_before c.args.sign bytes (length bytes) whole c.in_default.ensures)

pub returns-clause-cut : goal.returns-clause-cut
returns-clause-cut c =
    let bytes = c.args.bytes.now in
    let place = c.in-Some.place in
    let first = c.in-Some.ensures in
    let within : place ≤ length bytes = omega (arith, first.0.high) in (
      cut_there c.args.sign bytes place first.0.high first.1 ∙ ap (λ l. take place bytes ++ c.args.sign ∷ l) (sym (take_rest bytes (place + 1))),
      lacks_before c.args.sign bytes place within first.0.before,
    )
